-- A call as a plan: walks in order, with marks made between them, and runs of marks cleared once their walk has succeeded.
use Rattle.std.specs.Prelude.{ℕ, ◌+◌, if◌then◌else◌, List, [], ◌∷◌, ◌++◌, Ok, Err, Result, nat_lt}
use Rattle.fault.specs.Refusals.{Told}
use Rattle.host.specs.Pages.{Request}
use Rattle.host.specs.Replies.{Replies, since}
use Rattle.accept_memory.specs.Walks.{walk_requests, walk_answer}
use Rattle.bitmap.specs.Marks.{marked, units_set, units_cleared}
use Rattle.efi_table.specs.declared.layout.Range.{Range}
use Rattle.efi_table.specs.Layouts.{range}
use Rattle.efi_table.specs.Shapes.{Shape, unit_at}
use Rattle.unaccepted_memory.specs.Runs.{Run, runs_in, if_none}

-- a walk that a call made: its span, its requests in order, and its answer
pub record Walk : Type 0 where
  pub span : Range
  pub requests : List Request
  pub answer : Result ℕ Told

-- the walk over a span where the replies from now on are R
abbrev pub walk_over : Replies → Range → Walk
walk_over R s = record { span = s; requests = walk_requests R s.start s.end; answer = walk_answer R s.start s.end }

-- the requests of walks, in order
abbrev pub requests_of : List Walk → List Request
requests_of [] = []
requests_of (w ∷ ws) = w.requests ++ requests_of ws

-- what a call comes to: its answer, the words after it, and the walks that it made
pub record Outcome (A : Type 0) : Type 0 where
  pub answer : Result A Told
  pub words : List ℕ
  pub walks : List Walk

abbrev pub outcome : {A : Type 0} → Result A Told → List ℕ → List Walk → Outcome A
outcome a ws l = record { answer = a; words = ws; walks = l }

-- the addresses of a run of units
abbrev pub addresses_of : Shape → Run → Range
addresses_of h r = range (unit_at h r.first) (unit_at h r.behind)

-- one thing that a plan has done
pub data Order : Type 0 where
  -- walk a part of registering, by its number; an empty part is passed over
  walking : ℕ → Range → Order
  -- mark units, of which none may be marked
  marking : Run → Order
  -- walk the addresses of a run, and clear the run once that walk has succeeded
  clearing : Run → Order

-- the fault of a walk, where n requests were made before it: it keeps its refusal, status, level and address
abbrev pub placed : ℕ → ℕ → ℕ → Told → Told
placed part unit n t = record {
  refusal = t.refusal;
  reason = t.reason;
  layer = t.layer;
  status = t.status;
  level = t.level;
  address = t.address;
  count = n + t.count;
  part = part;
  unit = unit;
}

-- unit u is marked already, which ends registering in its fifth part
abbrev pub overlap_at : ℕ → ℕ → Told
overlap_at u n = record { refusal = 3; reason = 0; layer = 3; status = 0; level = 0; address = 0; count = n; part = 5; unit = u }

-- what follows a success with a count, or a fault
abbrev pub going_on : Result ℕ Told → (ℕ → Outcome ℕ) → (Told → Outcome ℕ) → Outcome ℕ
going_on (Ok c) f g = f c
going_on (Err t) f g = g t

-- an outcome with one walk before it
abbrev pub with_walk : Walk → Outcome ℕ → Outcome ℕ
with_walk w o = record { answer = o.answer; words = o.words; walks = w ∷ o.walks }

-- The orders of a plan are done one after the other until one fails: R are the replies from now on, ws the words, and n the
-- requests made before. An overlap names unit u.
unfoldable pub performing : Shape → ℕ → Replies → List ℕ → ℕ → List Order → Outcome ℕ
performing h u R ws n [] = outcome (Ok n) ws []
performing h u R ws n (walking p s ∷ os) =
    if nat_lt s.start s.end
    then with_walk (walk_over R s)
    (going_on (walk_over R s).answer
    (λ c. performing h u (since (walk_over R s).requests R) ws (n + c) os)
    (λ t. outcome (Err (placed p 0 n t)) ws []))
    else performing h u R ws n os
performing h u R ws n (marking r ∷ os) =
    if_none (runs_in (marked ws) r.first r.behind)
    (performing h u R (units_set ws r.first r.behind) n os)
    (outcome (Err (overlap_at u n)) ws [])
performing h u R ws n (clearing r ∷ os) =
    with_walk (walk_over R (addresses_of h r))
    (going_on (walk_over R (addresses_of h r)).answer
    (λ c. performing h u (since (walk_over R (addresses_of h r)).requests R) (units_cleared ws r.first r.behind) (n + c) os)
    (λ t. outcome (Err (placed 0 r.first n t)) ws []))
