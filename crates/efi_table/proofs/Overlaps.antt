-- An overlap tells the units that a window touches.
use Rattle.std.proofs.Common.{◌≡◌, ℕ, ◌+◌, ◌-◌, ◌*◌, ◌/◌, ◌%◌, ◌<◌, ◌≤◌, max, Bool, true, false, cond, ltb, Some, None, Option, sym, subst, refl, inl, inr, mul-le-mul_right, div-lt_iff_lt-mul, add-mul, one-mul, div-add-mod', le-div_iff_mul-le, arith}
use Rattle.std.specs.Int.{div_ceil}
use Rattle.std.proofs.Math.Nat.{lt_of_mul-lt-mul_right}
use Rattle.std.proofs.lemmas.Bool.{cases_eq, cases_lt, ltb-false, ltb-true}
use Rattle.efi_table.specs.Shapes.{Shape, unit_at, units_of, window_low, window_high, overlap_of}
use Rattle.efi_table.specs.Laws.{Overlaps, Touched}

one_more : (k u : ℕ) → (k + 1) * u ≡ k * u + u
one_more k u = omega (arith, add-mul k 1 u, one-mul u)

-- k units are fewer than the units of x addresses exactly if they hold less than x
up_below : (x u k : ℕ) → 0 < u → k < div_ceil x u → k * u < x
up_below x u k p h =
    let d = div-add-mod' x u in
    elim (cases_eq (x % u) 0) [
      | inl z ↦
          let m : (k + 1) * u ≤ x = (le-div_iff_mul-le {k = u} {x = k + 1} {y = x} p).0 (omega arith) in
          omega (arith, one_more k u)
      | inr z ↦ let m : k * u ≤ x / u * u = mul-le-mul_right u (omega arith) in omega (arith, d)
    ]

below_up : (x u k : ℕ) → 0 < u → k * u < x → k < div_ceil x u
below_up x u k p h =
    let d = div-add-mod' x u in
    elim (cases_eq (x % u) 0) [
      | inl z ↦ let m : k < x / u = lt_of_mul-lt-mul_right u (omega (arith, d)) in omega arith
      | inr z ↦ let m : k ≤ x / u = (le-div_iff_mul-le {k = u} {x = k} {y = x} p).1 (omega arith) in omega arith
    ]

module _ (s : Shape) (from to : ℕ) (p : 0 < s.unit) where
  abbrev low : ℕ
  low = window_low s from

  abbrev high : ℕ
  high = window_high s to

  all_in : (k : ℕ) → k < units_of s → Touched s k from to → (low < high) × ((low - s.base) / s.unit ≤ k) × (k < div_ceil (high - s.base) s.unit)
  all_in k h t =
      let u : ℕ = s.unit in
      let next = one_more k u in
      let up : (k + 1) * u ≤ units_of s * u = mul-le-mul_right u (omega arith) in
      let l : low < high = omega (arith, t.after, t.before, t.low, t.high) in
      let f : (low - s.base) / u < k + 1 = (div-lt_iff_lt-mul {k = u} {x = low - s.base} {y = k + 1} p).1 (omega (arith, t.after, t.low, t.high)) in
      let g : k < div_ceil (high - s.base) u = below_up (high - s.base) u k p (omega (arith, t.before, t.low, t.high)) in
      (l, omega arith, g)

  only_in : (k : ℕ) → low < high → (low - s.base) / s.unit ≤ k → k < div_ceil (high - s.base) s.unit → (k < units_of s) × Touched s k from to
  only_in k l f g =
      let u : ℕ = s.unit in
      let next = one_more k u in
      let m : low - s.base < (k + 1) * u = (div-lt_iff_lt-mul {k = u} {x = low - s.base} {y = k + 1} p).0 (omega arith) in
      let n : k * u < high - s.base = up_below (high - s.base) u k p g in (
        lt_of_mul-lt-mul_right u (omega arith),
        record { address = max low (unit_at s k); after = omega arith; before = omega arith; low = omega arith; high = omega arith },
      )

  some_in : low < high → ((low - s.base) / s.unit < div_ceil (high - s.base) s.unit) × (div_ceil (high - s.base) s.unit ≤ units_of s)
  some_in l =
      let u : ℕ = s.unit in
      let x : ℕ = high - s.base in
      let y : ℕ = low - s.base in
      let f : y / u * u ≤ y = omega (arith, div-add-mod' y u) in
      let g : y / u < div_ceil x u = below_up x u (y / u) p (omega arith) in
      let w : div_ceil x u ≤ units_of s =
      elim (cases_lt (units_of s) (div_ceil x u)) [ inl h ↦ absurd (omega (arith, up_below x u (units_of s) p h)) | inr h ↦ h ] in
      (g, w)

  by : (t : Bool) → ltb low high ≡ t → Overlaps s from to (cond t (Some ((low - s.base) / s.unit, div_ceil (high - s.base) s.unit, s.unit)) None)
  by true t =
      let l = ltb-true low high t in
      record {
        only = λ k h. only_in k l h.0 h.1;
        all = λ k h d. let i = all_in k h d in (i.1, i.2);
        some = some_in l;
      }
  by false t =
      record {
        only = λ k h. absurd h;
        all = λ k h d. let i = all_in k h d in omega (arith, i.0, ltb-false low high t);
        some = tt;
      }

  pub overlap_law : Overlaps s from to (overlap_of s from to)
  overlap_law = by (ltb low high) refl

  pub overlap_is : (o : Option (ℕ × ℕ × ℕ)) → o ≡ overlap_of s from to → Overlaps s from to o
  overlap_is o e = subst (Overlaps s from to) (sym e) overlap_law
