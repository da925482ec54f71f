-- What restoring a claim does.
use Rattle.std.proofs.Common.{◌≡◌, ℕ, ◌⊎◌, List, length, sym, refl, ap, ◌∙◌, subst, inl, inr, arith}
use Rattle.bitmap.specs.Marks.{units_set}
use Rattle.bitmap.proofs.MarkLaws.{length_written}
use Rattle.efi_table.specs.declared.layout.Range.{Range}
use Rattle.efi_table.specs.Shapes.{Shape, overlap_of}
use Rattle.unaccepted_memory.specs.Plans.{Outcome, addresses_of}
use Rattle.unaccepted_memory.specs.Calls.{bitmap_of, with_units, restore_in}
use Rattle.unaccepted_memory.specs.History.{Moment, restore, Answer, by_restoring, Event, Spent, Restores}
use Rattle.unaccepted_memory.specs.Promises.{◌∈◌, Holds, Marked}
use Rattle.unaccepted_memory.proofs.UnitLaws.{set_keeps_at, set_cases_at, set_here_at}
use Rattle.unaccepted_memory.proofs.ImageLaws.{bitmap_units}
use Rattle.unaccepted_memory.proofs.OverlapLaws.{own_overlap}
use Rattle.unaccepted_memory.proofs.ClaimLaws.{without_self, without_rest, without_cases}
use Rattle.unaccepted_memory.proofs.StepLaws.{Table, OwnClaim, Good, Reached, Stepped, Ends, Effect, came, step}
use Rattle.unaccepted_memory.proofs.Answered.{answer_number, not_registering}

module _ (h : Shape) (table : Table h) (m : Moment) (e : Event) (n : Moment) (good : Good h m) (d : Restores h m e n) where
  abbrev out : List ℕ → Outcome (Unit {0})
  out = restore_in h d.handed

  pub own_claim : OwnClaim h d.handed
  own_claim = good.claims d.handed (without_self d.handed d.in_hand)

  abbrev pub words : List ℕ
  words = bitmap_of h m.image

  pub restored_words : with_units words (overlap_of h d.handed.start d.handed.end) ≡ units_set words own_claim.units.first own_claim.units.behind
  restored_words =
      ap (λ (c : Range). with_units words (overlap_of h c.start c.end)) own_claim.is
      ∙ ap (with_units words) (own_overlap h own_claim.units.first own_claim.units.behind table.unit own_claim.some own_claim.fits)

  restore_effect : n.claims ≡ d.others → Effect h m e n by_restoring (out words)
  restore_effect rest =
      record {
        long = ap length restored_words ∙ length_written 1 words own_claim.units.first own_claim.units.behind;
        made = tt;
        count = refl;
        number = λ t q. let z : ◌≡◌ {A = ℕ} 3 4 = ap answer_number q in absurd (omega arith);
        claims = λ c i. good.claims c (fewer c i);
        marks = λ a q. inr (inl (stands a (set_keeps_at h words own_claim.units a q)));
        claimed = λ a q. ends a q.0 q.2 (without_cases d.handed d.in_hand q.0 q.1);
        owed = λ a i k. not_registering e (restore d.handed) a d.call (omega arith) i;
        new_marks = λ a q. new a (set_cases_at h words own_claim.units a (subst (λ (ws : List ℕ). Marked h ws a) restored_words q));
        new_claims = λ a q. inl (inr (q.0, fewer q.0 q.1, q.2));
        spans = λ w i. elim i [ ];
      }
    where
      fewer : (c : Range) → c ∈ n.claims → c ∈ m.claims
      fewer c i = without_rest d.handed d.in_hand c (rw rest at i)

      stands : (a : ℕ) → Marked h (units_set words own_claim.units.first own_claim.units.behind) a → Marked h (out words).words a
      stands a q = subst (λ (ws : List ℕ). Marked h ws a) (sym restored_words) q

      ends : (a : ℕ) (x : Range) → Holds x a → (x ≡ d.handed) ⊎ (x ∈ d.others) → Ends h m n (out words) a
      ends a x i (inl q) =
          let units = bitmap_units h m.image good.image table.words in
          inr (inl (stands a (set_here_at h words own_claim.units a table.unit (omega (arith, own_claim.fits)) (subst (λ (y : Range). Holds y a) (q ∙ own_claim.is) i))))
      ends a x i (inr q) = inr (inr (x, rw rest q, i))

      new : (a : ℕ) → Holds (addresses_of h own_claim.units) a ⊎ Marked h words a → Reached h m e a
      new a (inl q) = inl (inr (d.handed, without_self d.handed d.in_hand, subst (λ (y : Range). Holds y a) (sym own_claim.is) q))
      new a (inr q) = inl (inl q)

  pub restore_step : Stepped h m e n
  restore_step =
      step h m e n good by_restoring out d.comes
      (restore_effect (subst (λ (x : Answer). Spent x d.handed d.others n.claims) (came h m e n good by_restoring out d.comes).answer d.claims))
