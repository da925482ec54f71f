-- What a walk of [s, e) promises over every host, whatever it replies.
use Rattle.std.specs.Prelude.{◌≡◌, ℕ, ◌+◌, ◌*◌, ◌/◌, ◌%◌, ◌<◌, ◌≤◌, ◌⊎◌, List, [], ◌∷◌, ◌++◌, length, Ok, Err, Result, ◌≢◌}
use Rattle.fault.specs.Refusals.{Told}
use Rattle.host.specs.Pages.{pending, accepted, Pages, Request, accepting, size}
use Rattle.host.specs.Replies.{Replies, heard}
use Rattle.host.specs.Requests.{Every, Once}
use Rattle.accept_memory.specs.Walks.{State, asking, finished, misaligned, refused, View, replied, by_state, ended, asked, begun, bound, walk_end, walk_requests}

-- a block of level l at address a that lies wholly in [s, e)
pub record Within (s e l a : ℕ) : Type 0 where
  pub low : l ≤ 2
  pub aligned : a % size l ≡ 0
  pub from : s ≤ a
  pub to : a + size l ≤ e

abbrev pub Inside : ℕ → ℕ → Request → Type 0
Inside s e (accepting l a) = Within s e l a

-- the count of an answer
abbrev pub count_of : Result ℕ Told → ℕ
count_of (Ok n) = n
count_of (Err t) = t.count

-- a page that was pending, is accepted, and lies wholly in [s, e)
pub record Gained (s e : ℕ) (P P' : Pages) (p : ℕ) : Type 0 where
  pub was : P p ≡ pending
  pub is : P' p ≡ accepted
  pub from : s ≤ 4096 * p
  pub to : 4096 * p + 4096 ≤ e

-- a walk that asks no more
abbrev pub Still : State → Type 0
Still (asking l) = ⊥
Still finished = Unit {0}
Still misaligned = Unit {0}
Still (refused l) = Unit {0}

-- a stepped walk that is given the replies of a list, in order: where it is then, and the requests that it made
unfoldable pub stepped_end : View → List ℕ → View
stepped_end w [] = w
stepped_end w (r ∷ rs) = stepped_end (replied w r) rs

unfoldable pub stepped_requests : View → List ℕ → List Request
stepped_requests w [] = []
stepped_requests w (r ∷ rs) = by_state w.state (λ l. accepting l w.next ∷ stepped_requests (replied w r) rs) []

-- the fault t tells the last of the requests qs, and the reply to it, which is not zero
pub record LastReply (R : Replies) (qs : List Request) (t : Told) : Type 0 where
  pub earlier : List Request
  pub request : qs ≡ earlier ++ (accepting t.level t.address ∷ [])
  pub reply : t.status ≡ R earlier (accepting t.level t.address)
  pub not_zero : t.status ≡ 0 → ⊥

-- P are the pages before, P' those after, and a is the answer
pub record Promises (s e : ℕ) (R : Replies) (P P' : Pages) (a : Result ℕ Told) : Type 0 where
  -- every request is for a block wholly in the span,
  pub inside : Every (Inside s e) (walk_requests R s e)
  -- none comes twice,
  pub once : Once (walk_requests R s e)
  -- they are as many as the answer counts,
  pub counted : count_of a ≡ length (walk_requests R s e)
  -- and no more than the pages, 2 MiB blocks and 1 GiB blocks of the span
  pub bounded : length (walk_requests R s e) ≤ bound s e
  -- with that many steps the walk has stopped, and more steps change nothing
  pub stopped : Still (walk_end R s e).state
  pub settled : (k : ℕ) → bound s e ≤ k → (ended k R (begun s e) ≡ walk_end R s e) × (asked k R (begun s e) ≡ walk_requests R s e)
  -- a page that is not as before was pending, is accepted, and lies wholly in the span,
  pub gained : (p : ℕ) → (P' p ≡ P p) ⊎ Gained s e P P' p
  -- so a page that does not lie wholly in the span is as before
  pub outside : (p : ℕ) → (4096 * p < s) ⊎ (e < 4096 * p + 4096) → P' p ≡ P p
  -- what lies behind a walk is accepted
  pub passed : (x : ℕ) → s ≤ x → x < (walk_end R s e).next → P' (x / 4096) ≡ accepted
  -- success means that every page of the span is accepted, and that both ends are multiples of 4096
  pub done : (n : ℕ) → a ≡ Ok n → s < e → (s % 4096 ≡ 0) × (e % 4096 ≡ 0) × ((x : ℕ) → s ≤ x → x < e → P' (x / 4096) ≡ accepted)
  -- a walk fails by 1 or by 5; every page of the span below the address of its fault is accepted
  pub failed : (t : Told) → a ≡ Err t → (t.refusal ≡ 1) ⊎ (t.refusal ≡ 5)
  pub below : (t : Told) → a ≡ Err t → (x : ℕ) → s ≤ x → x < t.address → P' (x / 4096) ≡ accepted
  -- it fails by 1 only if an end of the span is no multiple of 4096
  pub misaligned_end : (t : Told) → a ≡ Err t → t.refusal ≡ 1 → s % 4096 ≡ 0 → e % 4096 ≢ 0
  -- and by 5 only by the reply to its last request, for the block in its fault, which is not zero
  pub last_reply : (t : Told) → a ≡ Err t → t.refusal ≡ 5 → LastReply R (walk_requests R s e) t
  -- a stepped walk that is given the same replies makes the same requests and ends in the same state
  pub stepped : stepped_requests (begun s e) (heard R (walk_requests R s e)) ≡ walk_requests R s e
  pub stepped_to : stepped_end (begun s e) (heard R (walk_requests R s e)) ≡ walk_end R s e
