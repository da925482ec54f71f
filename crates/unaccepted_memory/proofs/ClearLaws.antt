-- Which units a call clears, and which run stays marked where accepting fails.
use Rattle.std.proofs.Common.{◌≡◌, ℕ, ◌+◌, ◌<◌, ◌≤◌, true, List, [], ◌∷◌, map, length, Some, None, Ok, Err, Option, Result, sym, refl, ap, ◌∙◌, subst, inl, inr, arith}
use mathlib.Core.List.Memᴰ
use Rattle.fault.specs.Refusals.{Told}
use Rattle.host.specs.Replies.{Replies, since}
use Rattle.bitmap.specs.Marks.{marked, units_set, units_cleared}
use Rattle.bitmap.specs.Parts.{with_part}
use Rattle.bitmap.proofs.MarkLaws.{length_written, written_outside}
use Rattle.efi_table.specs.Shapes.{Shape, bitmap_end, overlap_of}
use Rattle.efi_table.specs.Images.{is_image}
use Rattle.unaccepted_memory.specs.Runs.{Run, EveryRun, Ordered}
use Rattle.unaccepted_memory.specs.Plans.{Walk, walk_over, Outcome, outcome, addresses_of, Order, clearing, placed, overlap_at, with_walk, performing}
use Rattle.unaccepted_memory.specs.Calls.{bitmap_of, in_image, parts_of, register_in, runs_of_units, runs_over, accept_in, claim_first, claim_in, settle_in, with_units, restore_in}
use Rattle.unaccepted_memory.specs.History.{Moment, by_count, by_claim, by_restoring, Event, Comes, Step, registers, accepts, claims, settles, restores}
use Rattle.unaccepted_memory.specs.Promises.{◌∈◌}
use Rattle.unaccepted_memory.specs.CallLaws.{OfRun, TakenOver, over_by_walk, over_by_claim, ClearedOnly, StuckAt, StuckLaw}
use Rattle.unaccepted_memory.proofs.Results.{ok_err, same_err, cases_answer}
use Rattle.unaccepted_memory.proofs.UnitLaws.{set_keeps, clear_cases}
use Rattle.unaccepted_memory.proofs.PlanLaws.{performing_none, performing_cleared, performing_stuck, every_plan}
use Rattle.unaccepted_memory.proofs.ImageLaws.{on_own, bitmap_after}
use Rattle.unaccepted_memory.proofs.RunLaws.{runs_told, every_by, every_both}
use Rattle.unaccepted_memory.proofs.StepLaws.{came_own}
use Rattle.unaccepted_memory.proofs.FullRuns.{FullRun, full_runs}

-- unit k is in a run over which one of the walks succeeded
record Walked (h : Shape) (walks : List Walk) (k : ℕ) : Type 0 where
  run : Run
  walk : Walk
  count : ℕ
  one : walk ∈ walks
  over : walk.span ≡ addresses_of h run
  ok : walk.answer ≡ Ok count
  unit : OfRun run k

later : (h : Shape) (w : Walk) (walks : List Walk) (k : ℕ) → Walked h walks k → Walked h (w ∷ walks) k
later h w walks k d = record { run = d.run; walk = d.walk; count = d.count; one = Memᴰ.tail d.one; over = d.over; ok = d.ok; unit = d.unit }

-- the words that a plan leaves
record Leaves (h : Shape) (ws : List ℕ) (o : Outcome ℕ) : Type 0 where
  long : length o.words ≡ length ws
  cleared : (k : ℕ) → marked ws k ≡ 1 → marked o.words k ≡ 0 → Walked h o.walks k

same : (h : Shape) (ws : List ℕ) (r : Result ℕ Told) (walks : List Walk) → Leaves h ws (outcome r ws walks)
same h ws r walks = record { long = refl; cleared = λ k m z. absurd (omega arith) }

behind_walk : (h : Shape) (ws : List ℕ) (w : Walk) (o : Outcome ℕ) → Leaves h ws o → Leaves h ws (with_walk w o)
behind_walk h ws w o d = record { long = d.long; cleared = λ k m z. later h w o.walks k (d.cleared k m z) }

behind_marking : (h : Shape) (ws : List ℕ) (r : Run) (o : Outcome ℕ) → Leaves h (units_set ws r.first r.behind) o → Leaves h ws o
behind_marking h ws r o d =
    record { long = d.long ∙ length_written 1 ws r.first r.behind; cleared = λ k m z. d.cleared k (set_keeps ws r.first r.behind k m) z }

behind_clearing : (h : Shape) (R : Replies) (ws : List ℕ) (r : Run) (c : ℕ) (o : Outcome ℕ) → (walk_over R (addresses_of h r)).answer ≡ Ok c
    → Leaves h (units_cleared ws r.first r.behind) o → Leaves h ws (with_walk (walk_over R (addresses_of h r)) o)
behind_clearing h R ws r c o ok d = record {
  long = d.long ∙ length_written 0 ws r.first r.behind;
  cleared = λ k m z.
      elim (clear_cases ws r.first r.behind k m) [
        | inl i ↦ later h (walk_over R (addresses_of h r)) o.walks k (d.cleared k i z)
        | inr i ↦ record { run = r; walk = walk_over R (addresses_of h r); count = c; one = Memᴰ.head refl; over = refl; ok = ok; unit = i }
      ];
}

leaves : (h : Shape) (u : ℕ) (os : List Order) (R : Replies) (ws : List ℕ) (n : ℕ) → Leaves h ws (performing h u R ws n os)
leaves h u =
    every_plan h u (λ R ws n os o. Leaves h ws o) (record {
      none = λ R ws n. same h ws (Ok n) [];
      passed = λ R ws n p s os o l d. d;
      walked = λ R ws n p s os c o e d. behind_walk h ws (walk_over R s) o d;
      failed = λ R ws n p s os t e. same h ws (Err (placed p 0 n t)) (walk_over R s ∷ []);
      marks = λ R ws n r os o e d. behind_marking h ws r o d;
      overlap = λ R ws n r os x l e. same h ws (Err (overlap_at u n)) [];
      cleared = λ R ws n r os c o e d. behind_clearing h R ws r c o e d;
      stuck = λ R ws n r os t e. same h ws (Err (placed 0 r.first n t)) (walk_over R (addresses_of h r) ∷ []);
    })

module _ (h : Shape) (m n : Moment) (e : Event) (own : is_image h m.image ≡ true) (k : ℕ) (was : marked (bitmap_of h m.image) k ≡ 1)
    (is : marked (bitmap_of h n.image) k ≡ 0) where
  abbrev ws : List ℕ
  ws = bitmap_of h m.image

  -- the unit is clear in the words that the call leaves
  clear_in : (vs : List ℕ) → n.image ≡ with_part 3 (bitmap_end h) m.image vs → length vs ≡ length ws → marked vs k ≡ 0
  clear_in vs q long = ap (λ (us : List ℕ). marked us k) (sym (ap (bitmap_of h) q ∙ bitmap_after h m.image vs own long)) ∙ is

  by_plan : (o : Outcome ℕ) → Leaves h ws o → Comes m e n by_count (in_image h m.image o) → TakenOver h e k
  by_plan o d c =
      let w = d.cleared k was (clear_in o.words c.image d.long) in
      over_by_walk w.run w.walk w.count (subst (λ (l : List Walk). w.walk ∈ l) (sym c.walks) w.one) w.over w.ok w.unit

  by_claiming : (rs : List Run) → Comes m e n by_claim (in_image h m.image (claim_first h ws rs)) → TakenOver h e k
  by_claiming [] c = absurd (omega (arith, clear_in ws c.image refl))
  by_claiming (r ∷ rs) c =
      let z = clear_in (units_cleared ws r.first r.behind) c.image (length_written 0 ws r.first r.behind) in
      elim (clear_cases ws r.first r.behind k was) [
        | inl i ↦ absurd (omega arith)
        | inr i ↦ over_by_claim r c.answer i
      ]

  not_restoring : (o : Option (ℕ × ℕ × ℕ)) → n.image ≡ with_part 3 (bitmap_end h) m.image (with_units ws o) → TakenOver h e k
  not_restoring None c = absurd (omega (arith, clear_in ws c refl))
  not_restoring (Some t) c =
      let z = clear_in (units_set ws t.0 t.1) c (length_written 1 ws t.0 t.1) in
      absurd (omega (arith, set_keeps ws t.0 t.1 k was))

  by_step : Step h m e n → TakenOver h e k
  by_step (registers d) =
      by_plan (register_in h m.replies d.range d.unit ws) (leaves h d.unit (parts_of h d.range) m.replies ws 0)
      (came_own h m e n by_count (register_in h m.replies d.range d.unit) own d.comes)
  by_step (accepts d) =
      by_plan (accept_in h m.replies d.window ws) (leaves h 0 (map clearing (runs_over h ws d.window)) m.replies ws 0)
      (came_own h m e n by_count (accept_in h m.replies d.window) own d.comes)
  by_step (claims d) = by_claiming (runs_over h ws d.window) (came_own h m e n by_claim (claim_in h d.window) own d.comes)
  by_step (settles d) =
      by_plan (settle_in m.replies d.handed ws) (same h ws (walk_over m.replies d.handed).answer (walk_over m.replies d.handed ∷ []))
      (came_own h m e n by_count (settle_in m.replies d.handed) own d.comes)
  by_step (restores d) =
      not_restoring (overlap_of h d.handed.start d.handed.end) (came_own h m e n by_restoring (restore_in h d.handed) own d.comes).image

pub cleared_only : ClearedOnly
cleared_only h m n e own s k was is = by_step h m n e own k was is s

-- the run at which accepting fails
-- it is not below any bound of the runs
abbrev Stuck : Shape → List ℕ → List Run → Outcome ℕ → Told → Type 0
Stuck h ws rs o t = (d : StuckAt h ws o.words o.walks t) × ((b : ℕ) → EveryRun (λ r. b ≤ r.first) rs → b ≤ d.run.first)

stuck_here : (h : Shape) (R : Replies) (ws : List ℕ) (n : ℕ) (r : Run) (rs : List Run) (x t : Told) → FullRun ws r → (walk_over R (addresses_of h r)).answer ≡ Err x
    → placed 0 r.first n x ≡ t → Stuck h ws (r ∷ rs) (with_walk (walk_over R (addresses_of h r)) (outcome (Err (placed 0 r.first n x)) ws [])) t
stuck_here h R ws n r rs x t full failed q = (
  record {
    run = r;
    unit = ap (λ (y : Told). y.unit) (sym q);
    full = λ k i. full.1 k i.0 i.1;
    above = λ k i. refl;
    before = [];
    last = walk_over R (addresses_of h r);
    fault = x;
    count = n;
    walked = refl;
    over = refl;
    failed = failed;
    told = sym q;
  },
  λ b i. i.0,
)

stuck_later : (h : Shape) (R : Replies) (ws : List ℕ) (r : Run) (rs : List Run) (t : Told) (o : Outcome ℕ) → FullRun ws r → EveryRun (λ q. r.behind < q.first) rs
    → Stuck h (units_cleared ws r.first r.behind) rs o t → Stuck h ws (r ∷ rs) (with_walk (walk_over R (addresses_of h r)) o) t
stuck_later h R ws r rs t o full ordered (d, low) =
    let above : r.behind ≤ d.run.first = low r.behind (every_by (λ q. r.behind < q.first) (λ q. r.behind ≤ q.first) rs (λ q l. omega arith) ordered) in (
      record {
        run = d.run;
        unit = d.unit;
        full = d.full;
        above = λ k i. d.above k i ∙ written_outside 0 (omega arith) ws r.first r.behind k (inr (omega arith));
        before = walk_over R (addresses_of h r) ∷ d.before;
        last = d.last;
        fault = d.fault;
        count = d.count;
        walked = ap (λ (l : List Walk). walk_over R (addresses_of h r) ∷ l) d.walked;
        over = d.over;
        failed = d.failed;
        told = d.told;
      },
      λ b i. low b i.1,
    )

abbrev StuckIn : Shape → List Run → Type 0
StuckIn h rs = (R : Replies) (ws : List ℕ) (n : ℕ) (t : Told) → EveryRun (FullRun ws) rs → Ordered rs
    → (performing h 0 R ws n (map clearing rs)).answer ≡ Err t → Stuck h ws rs (performing h 0 R ws n (map clearing rs)) t

stuck_none : (h : Shape) → StuckIn h []
stuck_none h R ws n t full ordered e = ok_err n t (rw (performing_none h 0 R ws n) at e)

-- the runs behind a run that was cleared are full still
full_behind : (ws : List ℕ) (r : Run) (rs : List Run) → EveryRun (λ q. r.behind < q.first) rs → EveryRun (FullRun ws) rs
    → EveryRun (FullRun (units_cleared ws r.first r.behind)) rs
full_behind ws r rs ordered full =
    every_both (λ p. r.behind < p.first) (FullRun ws) (FullRun (units_cleared ws r.first r.behind)) rs
    (λ p l i. (i.0, λ k lo hi. written_outside 0 (omega arith) ws r.first r.behind k (inr (omega arith)) ∙ i.1 k lo hi)) ordered full

stuck_more : (h : Shape) (r : Run) (rs : List Run) → StuckIn h rs → StuckIn h (r ∷ rs)
stuck_more h r rs rest R ws n t full ordered e =
    elim (cases_answer (walk_over R (addresses_of h r)).answer) [
      | inl x ↦
          let q = performing_cleared h 0 R ws n (map clearing rs) r x.0 x.1 in
          let R₁ = since (walk_over R (addresses_of h r)).requests R in
          let ws₁ = units_cleared ws r.first r.behind in
          rw q (stuck_later h R ws r rs t (performing h 0 R₁ ws₁ (n + x.0) (map clearing rs)) full.0 ordered.0
          (rest R₁ ws₁ (n + x.0) t (full_behind ws r rs ordered.0 full.1) ordered.1 (rw q at e)))
      | inr x ↦
          let q = performing_stuck h 0 R ws n (map clearing rs) r x.0 x.1 in
          rw q (stuck_here h R ws n r rs x.0 t full.0 x.1 (same_err (placed 0 r.first n x.0) t (rw q at e)))
    ]

stuck : (h : Shape) (rs : List Run) → StuckIn h rs
stuck h [] = stuck_none h
stuck h (r ∷ rs) = stuck_more h r rs (stuck h rs)

ordered_runs : (ws : List ℕ) (o : Option (ℕ × ℕ × ℕ)) → Ordered (runs_of_units ws o)
ordered_runs ws None = tt
ordered_runs ws (Some t) = (runs_told (marked ws) t.0 t.1).ordered

pub stuck_told : StuckLaw
stuck_told h img R w t own e =
    let ws = bitmap_of h img in
    let o = accept_in h R w ws in
    let q = on_own h img (accept_in h R w) own in
    let over = overlap_of h w.start w.end in
    let d = stuck h (runs_over h ws w) R ws 0 t (full_runs ws over) (ordered_runs ws over) (rw q at e) in
    rw (q, bitmap_after h img o.words own (leaves h 0 (map clearing (runs_over h ws w)) R ws 0).long) d.0
