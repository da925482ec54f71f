-- What claiming in a window does.
use Rattle.std.proofs.Common.{◌≡◌, ℕ, ◌⊎◌, List, [], ◌∷◌, refl, ap, subst, inl, inr, arith}
use Rattle.bitmap.specs.Marks.{units_cleared}
use Rattle.bitmap.proofs.MarkLaws.{length_written}
use Rattle.efi_table.specs.declared.layout.Range.{Range}
use Rattle.efi_table.specs.Shapes.{Shape, overlap_of}
use Rattle.unaccepted_memory.specs.Runs.{Run, EveryRun}
use Rattle.unaccepted_memory.specs.Plans.{addresses_of}
use Rattle.unaccepted_memory.specs.Calls.{bitmap_of, runs_over, claim_first, claim_in}
use Rattle.unaccepted_memory.specs.History.{Moment, claim, Answer, none, by_claim, Event, Without, Opened, Claims}
use Rattle.unaccepted_memory.specs.Promises.{◌∈◌, Holds, Marked}
use Rattle.unaccepted_memory.proofs.UnitLaws.{clear_cases_at, clear_less_at}
use Rattle.unaccepted_memory.proofs.ImageLaws.{bitmap_units}
use Rattle.unaccepted_memory.proofs.ClaimLaws.{without_self, without_rest, without_cases}
use Rattle.unaccepted_memory.proofs.StepLaws.{Table, OwnClaim, Good, Reached, Stepped, Ends, Effect, came, step}
use Rattle.unaccepted_memory.proofs.Answered.{answer_number, not_registering}
use Rattle.unaccepted_memory.proofs.FullRuns.{FullRun, full_runs, full_marked, run_fits}

module _ (h : Shape) (table : Table h) (m : Moment) (e : Event) (n : Moment) (good : Good h m) (d : Claims h m e n) where
  abbrev words : List ℕ
  words = bitmap_of h m.image

  claim_none : Opened none m.claims n.claims → Effect h m e n by_claim (claim_first h words [])
  claim_none same = record {
    long = refl;
    made = tt;
    count = refl;
    number = λ t q. let z : ◌≡◌ {A = ℕ} 2 4 = ap answer_number q in absurd (omega arith);
    claims = rw same good.claims;
    marks = λ a q. inr (inl q);
    claimed = λ a q. inr (inr (rw same q));
    owed = λ a i k. not_registering e (claim d.window) a d.call (omega arith) i;
    new_marks = λ a q. inl (inl q);
    new_claims = λ a q. inl (inr (rw same at q));
    spans = λ w i. elim i [ ];
  }

  claim_one : (r : Run) (rs : List Run) → FullRun words r → Without (addresses_of h r) n.claims m.claims → Effect h m e n by_claim (claim_first h words (r ∷ rs))
  claim_one r rs full opened =
      record {
        long = length_written 0 words r.first r.behind;
        made = tt;
        count = refl;
        number = λ t q. let z : ◌≡◌ {A = ℕ} 1 4 = ap answer_number q in absurd (omega arith);
        claims = λ c i. own c (without_cases (addresses_of h r) opened c i);
        marks = λ a q. ends a (clear_cases_at h words r a q);
        claimed = λ a q. inr (inr (q.0, without_rest (addresses_of h r) opened q.0 q.1, q.2));
        owed = λ a i k. not_registering e (claim d.window) a d.call (omega arith) i;
        new_marks = λ a q. inl (inl (clear_less_at h words r a q));
        new_claims = λ a q. back a q.0 q.2 (without_cases (addresses_of h r) opened q.0 q.1);
        spans = λ w i. elim i [ ];
      }
    where
      own : (c : Range) → (c ≡ addresses_of h r) ⊎ (c ∈ m.claims) → OwnClaim h c
      own c (inl q) = record { units = r; is = q; some = full.0; fits = run_fits h words r (bitmap_units h m.image good.image table.words) full }
      own c (inr q) = good.claims c q

      ends : (a : ℕ) → Marked h (units_cleared words r.first r.behind) a ⊎ Holds (addresses_of h r) a → Ends h m n (claim_first h words (r ∷ rs)) a
      ends a (inl q) = inr (inl q)
      ends a (inr q) = inr (inr (addresses_of h r, without_self (addresses_of h r) opened, q))

      back : (a : ℕ) (c : Range) → Holds c a → (c ≡ addresses_of h r) ⊎ (c ∈ m.claims) → Reached h m e a
      back a c q (inl i) = inl (inl (full_marked h table.unit words r a full (subst (λ (x : Range). Holds x a) i q)))
      back a c q (inr i) = inl (inr (c, i, q))

  claim_by : (rs : List Run) → EveryRun (FullRun words) rs → Opened (by_claim (claim_first h words rs).answer) m.claims n.claims → Effect h m e n by_claim (claim_first h words rs)
  claim_by [] full opened = claim_none opened
  claim_by (r ∷ rs) full opened = claim_one r rs full.0 opened

  pub claim_step : Stepped h m e n
  claim_step =
      step h m e n good by_claim (claim_in h d.window) d.comes
      (claim_by (runs_over h words d.window) (full_runs words (overlap_of h d.window.start d.window.end))
      (subst (λ (x : Answer). Opened x m.claims n.claims) (came h m e n good by_claim (claim_in h d.window) d.comes).answer d.claims))
