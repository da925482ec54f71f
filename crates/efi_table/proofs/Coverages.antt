-- The coverage of a list of ranges, one range after another.
use Rattle.std.proofs.Common.{◌≡◌, ℕ, zero, suc, ◌+◌, ◌-◌, ◌^◌, ◌<◌, ◌≤◌, min, max, Bool, true, false, cond, ◌||◌, eqb, ltb, leb, ◌⊎◌, List, [], ◌∷◌, length, drop, Ok, Err, sym, refl, ap, ◌∙◌, ap₂, inl, inr, arith}
use Rattle.std.proofs.lemmas.List.{at_drop_more}
use Rattle.std.proofs.lemmas.Bool.{cases_lt, cond-false, eqb-false, le-ltb, leb-false, lt-leb, ltb-false, ne_eqb, or_from, or_parts}
use Rattle.fault.specs.declared.AcceptError.TheVariants.{OutOfBounds}
use Rattle.efi_table.specs.declared.layout.Range.{Range}
use Rattle.efi_table.specs.Layouts.{covering, range}
use Rattle.efi_table.specs.Laws.{Coverages, Covers, Listed, range_at}

pub covering_more :
    (low high low' high' i : ℕ) (rs : List Range) → i < length rs → (range_at rs i).start < (range_at rs i).end
    → low' ≡ min low (range_at rs i).start → high' ≡ max high (range_at rs i).end
    → covering low' high' (drop (i + 1) rs) ≡ covering low high (drop i rs)
covering_more low high low' high' i rs h some l u =
    ap₂ (λ (a b : ℕ). covering a b (drop (i + 1) rs)) l u
    ∙ sym (at_drop_more (covering low high) rs i (range 0 0) h ∙ cond-false _ _ _ (lt-leb _ _ some))

-- what a list covers, over a lowest start and a highest end
record Spans (low high : ℕ) (rs : List Range) (r : Range) : Type 0 where
  filled : (i : ℕ) → i < length rs → (range_at rs i).start < (range_at rs i).end
  below : r.start ≤ low
  above : high ≤ r.end
  each : (i : ℕ) → i < length rs → (r.start ≤ (range_at rs i).start) × ((range_at rs i).end ≤ r.end)
  lowest : (r.start ≡ low) ⊎ ((i : ℕ) × (i < length rs) × ((range_at rs i).start ≡ r.start))
  highest : (r.end ≡ high) ⊎ ((i : ℕ) × (i < length rs) × ((range_at rs i).end ≡ r.end))

module _ (low high : ℕ) (q : Range) (rs : List Range) (r : Range) where
  fits : q.start < q.end → Spans (min low q.start) (max high q.end) rs r → Spans low high (q ∷ rs) r
  fits f s = record {
    filled = filled;
    below = omega (arith, s.below);
    above = omega (arith, s.above);
    each = each;
    lowest = lowest s.lowest;
    highest = highest s.highest;
  }
    where
      filled : (i : ℕ) → i < length (q ∷ rs) → (range_at (q ∷ rs) i).start < (range_at (q ∷ rs) i).end
      filled zero h = f
      filled (suc i) h = s.filled i (omega arith)

      each : (i : ℕ) → i < length (q ∷ rs) → (r.start ≤ (range_at (q ∷ rs) i).start) × ((range_at (q ∷ rs) i).end ≤ r.end)
      each zero h = (omega (arith, s.below), omega (arith, s.above))
      each (suc i) h = s.each i (omega arith)

      lowest : (r.start ≡ min low q.start) ⊎ ((i : ℕ) × (i < length rs) × ((range_at rs i).start ≡ r.start))
          → (r.start ≡ low) ⊎ ((i : ℕ) × (i < length (q ∷ rs)) × ((range_at (q ∷ rs) i).start ≡ r.start))
      lowest (inl e) = elim (cases_lt low q.start) [ inl h ↦ inl (omega arith) | inr h ↦ inr (0, omega arith, omega arith) ]
      lowest (inr w) = inr (suc w.0, omega (arith, w.1), w.2)

      highest : (r.end ≡ max high q.end) ⊎ ((i : ℕ) × (i < length rs) × ((range_at rs i).end ≡ r.end))
          → (r.end ≡ high) ⊎ ((i : ℕ) × (i < length (q ∷ rs)) × ((range_at (q ∷ rs) i).end ≡ r.end))
      highest (inl e) = elim (cases_lt q.end high) [ inl h ↦ inl (omega arith) | inr h ↦ inr (0, omega arith, omega arith) ]
      highest (inr w) = inr (suc w.0, omega (arith, w.1), w.2)

spans : (low high : ℕ) (rs : List Range) (r : Range) → covering low high rs ≡ Ok r → Spans low high rs r
spans low high [] r e =
    let i : range low high ≡ r = cc in
    let l : low ≡ r.start = ap (λ (x : Range). x.start) i in
    let h : high ≡ r.end = ap (λ (x : Range). x.end) i in
    record { filled = λ i h. absurd (omega arith); below = omega arith; above = omega arith; each = λ i h. absurd (omega arith); lowest = inl (omega arith); highest = inl (omega arith) }
spans low high (q ∷ rs) r e = by (leb q.end q.start) refl e (spans (min low q.start) (max high q.end) rs r)
  where
    by : (t : Bool) → leb q.end q.start ≡ t → cond t (Err OutOfBounds) (covering (min low q.start) (max high q.end) rs) ≡ Ok r
        → (covering (min low q.start) (max high q.end) rs ≡ Ok r → Spans (min low q.start) (max high q.end) rs r) → Spans low high (q ∷ rs) r
    by true t e s = cc
    by false t e s = fits low high q rs r (leb-false _ _ t) (s e)

covering_given : (low high : ℕ) (rs : List Range) → ((i : ℕ) → i < length rs → (range_at rs i).start < (range_at rs i).end) → (r : Range) × (covering low high rs ≡ Ok r)
covering_given low high [] f = (range low high, refl)
covering_given low high (q ∷ rs) f =
    let g = covering_given (min low q.start) (max high q.end) rs (λ i h. f (suc i) (omega arith)) in
    (g.0, cond-false _ _ _ (lt-leb _ _ (f 0 (omega arith))) ∙ g.1)

module _ (rs : List Range) where
  abbrev bad : Bool
  bad = eqb (length rs) 0 || ltb 1024 (length rs)

  covered : ((i : ℕ) → (range_at rs i).end < 2 ^ 64) → (r : Range) (t : Bool) → bad ≡ t → cond t (Err OutOfBounds) (covering (2 ^ 64 - 1) 0 rs) ≡ Ok r → Listed rs × Covers rs r
  covered a r true t e = cc
  covered a r false t e =
      let p = or_parts (eqb (length rs) 0) (ltb 1024 (length rs)) t in
      let some : 0 < length rs = omega (arith, eqb-false _ _ p.0) in
      let few : length rs ≤ 1024 = ltb-false _ _ p.1 in
      let s = spans (2 ^ 64 - 1) 0 rs r e in
      let f = s.filled 0 some in
      let g = s.each 0 some in (
        record { some = some; few = few; filled = s.filled },
        record {
          each = s.each;
          lowest = elim s.lowest [ inl e ↦ absurd (omega (arith, f, g.0, a 0)) | inr w ↦ w ];
          highest = elim s.highest [ inl e ↦ absurd (omega (arith, f, g.1)) | inr w ↦ w ];
        },
      )

  pub coverages : Coverages rs
  coverages = record {
    covered = λ a r e. covered a r bad refl e;
    given = λ l.
        let g = covering_given (2 ^ 64 - 1) 0 rs l.filled in
        let n : bad ≡ false = or_from (eqb (length rs) 0) (ltb 1024 (length rs)) (ne_eqb _ _ (omega (arith, l.some))) (le-ltb _ _ l.few) in
        (g.0, cond-false _ _ _ n ∙ g.1);
  }
