-- A map by the values that the code holds, and the bytes that it was lent.
use Rattle.std.proofs.Common.{◌≡◌, ℕ, List, [], ◌∷◌, refl, ap, ◌∙◌, append-nil}
use Rattle.host.specs.Pages.{Request}
use Rattle.host.specs.Replies.{unrolled}
use Rattle.host.specs.States.{HostState, received_all}
use Rattle.hosts.specs.declared.map.MapHost.{MapHost}
use Rattle.host_models.specs.Map.{map_state}

abbrev pub state_of : MapHost → HostState
state_of h = map_state h.first h.count h.pages.ghost_name h.pages.now

bytes_now : (h : MapHost) → h.pages.now ≡ (state_of h).lent []
unfolding unrolled
bytes_now h = refl

-- the bytes after the requests of a list
pub bytes_after : (h h' : MapHost) (qs : List Request) → state_of h' ≡ received_all qs (state_of h) → h'.pages.now ≡ (state_of h).lent qs
bytes_after h h' qs e = bytes_now h' ∙ ap (λ (s : HostState). s.lent []) e ∙ ap (state_of h).lent (append-nil qs)

-- the bytes that come back are those that the map had last, if the names are one
pub moved : (N M Q : List ℕ) (n m : ℕ) → (n ≡ m → N ≡ M) → n ≡ m → M ≡ Q → N ≡ Q
moved N M Q n m back same e = back same ∙ e

pub same_name : (f f' c c' m m' : ℕ) → f ∷ c ∷ m ∷ [] ≡ f' ∷ c' ∷ m' ∷ [] → m' ≡ m
same_name f f' c c' m m' e = cc
