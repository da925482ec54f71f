-- What registering makes of the bitmap.
use Rattle.std.proofs.Common.{◌≡◌, ℕ, ◌-◌, ◌*◌, ◌<◌, ◌≤◌, ltb, ◌⊎◌, List, [], ◌∷◌, Ok, Err, Result, sym, refl, ap, subst, inl, inr, arith}
use Rattle.std.proofs.lemmas.Bool.{cond-true, cond-false, lt-ltb, le-ltb, cases_lt}
use Rattle.fault.specs.Refusals.{Told}
use Rattle.host.specs.Replies.{Replies}
use Rattle.bitmap.specs.Marks.{marked, units_set}
use Rattle.bitmap.specs.Search.{Nowhere, Somewhere}
use Rattle.bitmap.proofs.MarkLaws.{marked_lt}
use Rattle.efi_table.specs.Shapes.{Shape}
use Rattle.unaccepted_memory.specs.Runs.{Run, runs_in, SomeRun, AreRuns}
use Rattle.unaccepted_memory.specs.Plans.{Outcome, outcome, Order, walking, marking, clearing, placed, overlap_at, performing}
use Rattle.unaccepted_memory.specs.Calls.{inner_units, parts_of}
use Rattle.unaccepted_memory.specs.CallLaws.{RegisterLaw}
use Rattle.unaccepted_memory.proofs.Results.{ok_err, err_ok, same_err}
use Rattle.unaccepted_memory.proofs.PlanLaws.{every_plan}
use Rattle.unaccepted_memory.proofs.RunLaws.{runs_told}
use Rattle.unaccepted_memory.proofs.CallLaws.{walk_fails}

-- orders that only walk, and orders of which one marks the units of r and the others only walk
abbrev Walking : List Order → Type 0
Walking [] = Unit {0}
Walking (walking p s ∷ os) = Walking os
Walking (marking r ∷ os) = ⊥
Walking (clearing r ∷ os) = ⊥

abbrev MarksOnce : Run → List Order → Type 0
MarksOnce r [] = ⊥
MarksOnce r (walking p s ∷ os) = MarksOnce r os
MarksOnce r (marking q ∷ os) = (q ≡ r) × Walking os
MarksOnce r (clearing q ∷ os) = ⊥

pub no_run_here : (f : ℕ → ℕ) (a b : ℕ) → ((k : ℕ) → f k < 2) → runs_in f a b ≡ [] → Nowhere f a b
no_run_here f a b small e k from to =
    elim (cases_lt (f k) 1) [
      | inl l ↦ omega arith
      | inr l ↦
          let none : SomeRun (λ r. (r.first ≤ k) × (k < r.behind)) [] = rw e at ((runs_told f a b).all k from to (omega (arith, small k))) in
          absurd none
    ]

a_run_here : (f : ℕ → ℕ) (a b : ℕ) (r : Run) (l : List Run) → runs_in f a b ≡ r ∷ l → Somewhere f a b
a_run_here f a b r l e =
    let told : AreRuns f a b (r ∷ l) = rw e at (runs_told f a b) in
    let one = told.each.0 in
    record { unit = r.first; from = one.from; to = omega (arith, one.some, one.to); here = one.full r.first (omega arith) one.some }

-- only walks: the words stay, and no refusal is by 3
record Still (ws : List ℕ) (o : Outcome ℕ) : Type 0 where
  words : o.words ≡ ws
  never : (t : Told) → o.answer ≡ Err t → t.refusal ≡ 3 → ⊥

-- one order marks: the fields of RegisterTold
record Once (u : ℕ) (r : Run) (ws : List ℕ) (o : Outcome ℕ) : Type 0 where
  done : (c : ℕ) → o.answer ≡ Ok c → Nowhere (marked ws) r.first r.behind × (o.words ≡ units_set ws r.first r.behind)
  overlap : (t : Told) → o.answer ≡ Err t → t.refusal ≡ 3 → (t.part ≡ 5) × (t.unit ≡ u) × Somewhere (marked ws) r.first r.behind × (o.words ≡ ws)

abbrev ToldBy : ℕ → List ℕ → List Order → Outcome ℕ → Type 0
ToldBy u ws os o = (Walking os → Still ws o) × ((r : Run) → MarksOnce r os → Once u r ws o)

not_three : (p v n : ℕ) (x t : Told) → (x.refusal ≡ 1) ⊎ (x.refusal ≡ 5) → ◌≡◌ {A = Result ℕ Told} (Err (placed p v n x)) (Err t) → t.refusal ≡ 3 → ⊥
not_three p v n x t k e q = by k (ap (λ (y : Told). y.refusal) (same_err (placed p v n x) t e))
  where
    by : (x.refusal ≡ 1) ⊎ (x.refusal ≡ 5) → x.refusal ≡ t.refusal → ⊥
    by (inl a) b = omega arith
    by (inr a) b = omega arith

marked_now : (u : ℕ) (r q : Run) (ws : List ℕ) (o : Outcome ℕ) → q ≡ r → runs_in (marked ws) q.first q.behind ≡ []
    → Still (units_set ws q.first q.behind) o → Once u r ws o
marked_now u r q ws o same none s =
    let s' : Still (units_set ws r.first r.behind) o = rw same at s in
    let none' : runs_in (marked ws) r.first r.behind ≡ [] = rw same at none in
    record {
      done = λ c e. (no_run_here (marked ws) r.first r.behind (marked_lt ws) none', s'.words);
      overlap = λ t e k. absurd (s'.never t e k);
    }

overlapped : (u n : ℕ) (r q : Run) (ws : List ℕ) (x : Run) (l : List Run) → q ≡ r → runs_in (marked ws) q.first q.behind ≡ x ∷ l → Once u r ws (outcome (Err (overlap_at u n)) ws [])
overlapped u n r q ws x l same e =
    let e' : runs_in (marked ws) r.first r.behind ≡ x ∷ l = rw same at e in
    record {
      done = λ c k. err_ok c (overlap_at u n) k;
      overlap = λ t k _.
          let told = same_err (overlap_at u n) t k in
          (sym (ap (λ (y : Told). y.part) told), sym (ap (λ (y : Told). y.unit) told), a_run_here (marked ws) r.first r.behind x l e', refl);
    }

told_by_plan : (h : Shape) (u : ℕ) (os : List Order) (R : Replies) (ws : List ℕ) (n : ℕ) → ToldBy u ws os (performing h u R ws n os)
told_by_plan h u =
    every_plan h u (λ R ws n os o. ToldBy u ws os o) (record {
      none = λ R ws n. (λ _. record { words = refl; never = λ t e. ok_err n t e }, λ r i. absurd i);
      passed = λ R ws n p s os o l q. q;
      walked = λ R ws n p s os c o e q.
          (λ i. let d = q.0 i in record { words = d.words; never = d.never }, λ r i. let d = q.1 r i in record { done = d.done; overlap = d.overlap });
      failed = λ R ws n p s os t e. (
        λ i. record { words = refl; never = λ v k. not_three p 0 n t v (walk_fails R s t e) k },
        λ r i. record { done = λ c k. err_ok c (placed p 0 n t) k; overlap = λ v k three. absurd (not_three p 0 n t v (walk_fails R s t e) k three) },
      );
      marks = λ R ws n q os o e d. (λ i. absurd i, λ r i. marked_now u r q ws o i.0 e (d.0 i.1));
      overlap = λ R ws n q os x l e. (λ i. absurd i, λ r i. overlapped u n r q ws x l i.0 e);
      cleared = λ R ws n r os c o e q. (λ i. absurd i, λ r i. absurd i);
      stuck = λ R ws n r os t e. (λ i. absurd i, λ r i. absurd i);
    })

pub register_told : RegisterLaw
register_told h R s u ws =
    record {
      short = λ l.
          let e : parts_of h s ≡ walking 1 s ∷ [] = cond-true _ _ _ (lt-ltb (s.end - s.start) (2 * h.unit) l) in
          let d : Still ws (performing h u R ws 0 (parts_of h s)) = (told_by_plan h u (parts_of h s) R ws 0).0 (rw e tt) in
          (d.words, d.never);
      done = λ c q l. (wide l).done c q;
      overlap = λ t q k.
          elim (cases_lt (s.end - s.start) (2 * h.unit)) [
            | inl l ↦
                let e : parts_of h s ≡ walking 1 s ∷ [] = cond-true _ _ _ (lt-ltb (s.end - s.start) (2 * h.unit) l) in
                absurd (((told_by_plan h u (parts_of h s) R ws 0).0 (rw e tt)).never t q k)
            | inr l ↦ (wide l).overlap t q k
          ];
    }
  where
    wide : 2 * h.unit ≤ s.end - s.start → Once u (inner_units h s) ws (performing h u R ws 0 (parts_of h s))
    wide l =
        (told_by_plan h u (parts_of h s) R ws 0).1 (inner_units h s)
        (subst (MarksOnce (inner_units h s)) (sym (cond-false (ltb (s.end - s.start) (2 * h.unit)) _ _ (le-ltb (s.end - s.start) (2 * h.unit) l))) (refl, tt))
