-- Inject over any host: a list of words, one for each request, some of which are replies themselves.
use Rattle.std.specs.Prelude.{◌≡◌, ℕ, Bool, if◌then◌else◌, not, ◌&&◌, ◌⊎◌, List, [], ◌∷◌, drop, ◌==◌, ◌≢◌, slice_index}
use Rattle.tdcall.specs.declared.TdCallError.TheVariants.{TdxPageAlreadyAccepted}
use Rattle.tdcall.specs.Statuses.{class_of, number}
use Rattle.host.specs.Pages.{Request}
use Rattle.host.specs.Replies.{Replies, later}
use Rattle.host.specs.Layers.{Layer, Over, passed, layer_replies}

-- the next word, zero when the list is used up
abbrev pub next_word : List ℕ → ℕ
next_word ws = slice_index ws 0

-- a word that is a reply itself: neither zero nor of class already accepted
abbrev pub is_reply : ℕ → Bool
is_reply w = not (w == 0) && not (class_of w == number TdxPageAlreadyAccepted)

abbrev pub inject_reply : List ℕ → Replies → Request → ℕ
inject_reply ws R q = if is_reply (next_word ws) then next_word ws else R [] q

-- the requests that go on to the host below
abbrev pub inject_passes : List ℕ → Replies → Request → List Request
inject_passes ws R q = if is_reply (next_word ws) then [] else q ∷ []

-- inject, whose own state is the words that are left
abbrev pub injecting : Layer (List ℕ)
injecting = record { reply = inject_reply; passes = inject_passes; next = drop 1 }

abbrev pub inject_replies : List ℕ → Replies → Replies
inject_replies = layer_replies injecting

-- What becomes of one request, where r is the reply given, and s and t are what there was before and after it.
pub record Injected (s : Over (List ℕ)) (q : Request) (r : ℕ) (t : Over (List ℕ)) : Type 0 where
  -- a word that is neither zero nor of class already accepted is the reply,
  pub given : (next_word s.own ≢ 0) → (class_of (next_word s.own) ≢ number TdxPageAlreadyAccepted) → r ≡ next_word s.own
  -- and the host below is not asked
  pub unasked : (next_word s.own ≢ 0) → (class_of (next_word s.own) ≢ number TdxPageAlreadyAccepted) → t.below ≡ s.below
  -- with any other the reply is that of the host below,
  pub passed : (next_word s.own ≡ 0) ⊎ (class_of (next_word s.own) ≡ number TdxPageAlreadyAccepted) → r ≡ s.below [] q
  -- which has received this one request
  pub asked : (next_word s.own ≡ 0) ⊎ (class_of (next_word s.own) ≡ number TdxPageAlreadyAccepted) → t.below ≡ later q s.below
  -- each request takes one word
  pub used : t.own ≡ drop 1 s.own

abbrev pub InjectLaw : Type 0
InjectLaw = (s : Over (List ℕ)) (q : Request) → Injected s q (inject_reply s.own s.below q) (passed injecting s q)
