-- The parts of a range that is registered make it up.
use Rattle.std.proofs.Common.{◌≡◌, ℕ, ◌+◌, ◌-◌, ◌*◌, ◌/◌, ◌%◌, ◌<◌, ◌≤◌, min, max, ltb, ◌⊎◌, List, [], ◌∷◌, ◌∙◌, inl, inr, mod-lt, mod-eq_of_lt, div-lt_iff_lt-mul, add-mul, one-mul, arith}
use Rattle.std.specs.Int.{next_multiple_of}
use native.Mathlib.Nat.{mod-le, mod_self, mod-add-div', zero-div, dvd_of_mod-eq-zero, dvd-sub, div-mul_cancel, add-mul-mod_self_right, mul-mod_left}
use Rattle.std.proofs.lemmas.Bool.{cases_lt, cases_eq, ltb-false, cond_both}
use Rattle.efi_table.specs.declared.layout.Range.{Range}
use Rattle.efi_table.specs.Layouts.{range, aligned_down}
use Rattle.efi_table.specs.Shapes.{Shape, unit_at, units_of, covered_end}
use Rattle.unaccepted_memory.specs.Plans.{addresses_of, Order, walking, marking}
use Rattle.unaccepted_memory.specs.Calls.{inner_low, inner_high, inner_units, parts_of}
use Rattle.unaccepted_memory.specs.Promises.{Holds}
use Rattle.unaccepted_memory.proofs.PlanLaws.{Held, here, there, Below}

-- rounding up and down
pub up_low : (x u : ℕ) → x ≤ next_multiple_of x u
up_low x u = omega arith

pub up_high : (x u : ℕ) → 0 < u → next_multiple_of x u < x + u
up_high x u some = omega (arith, mod-lt (u - x % u) some)

pub up_even : (x u : ℕ) → 0 < u → next_multiple_of x u % u ≡ 0
up_even x u some =
    elim (cases_eq (x % u) 0) [
      | inl e ↦
          let d : u - x % u ≡ u = omega arith in
          let z : (u - x % u) % u ≡ 0 = rw d (mod_self u) in
          let same : next_multiple_of x u ≡ x = omega arith in
          rw same e
      | inr e ↦
          let m = mod-lt x some in
          let z : (u - x % u) % u ≡ u - x % u = mod-eq_of_lt {n = u - x % u} {m = u} (omega arith) in
          let q : ℕ = x / u in
          let whole : next_multiple_of x u ≡ (q + 1) * u = omega (arith, mod-add-div' x u, add-mul q 1 u, one-mul u) in
          rw whole (mul-mod_left (q + 1) u)
    ]

pub down_high : (x u : ℕ) → aligned_down x u ≤ x
down_high x u = omega arith

pub down_low : (x u : ℕ) → 0 < u → x < aligned_down x u + u
down_low x u some = omega (arith, mod-lt x some, mod-le x u)

pub down_even : (x u : ℕ) → aligned_down x u % u ≡ 0
down_even x u =
    let whole : aligned_down x u ≡ x / u * u = omega (arith, mod-add-div' x u) in
    rw whole (mul-mod_left (x / u) u)

-- A unit begins at each multiple of the unit size that the coverage has, if the base is one.
pub exact : (h : Shape) (y : ℕ) → h.base % h.unit ≡ 0 → y % h.unit ≡ 0 → h.base ≤ y → unit_at h ((y - h.base) / h.unit) ≡ y
exact h y even at from =
    let d = div-mul_cancel h.unit (dvd-sub h.unit (dvd_of_mod-eq-zero h.unit at) (dvd_of_mod-eq-zero h.unit even)) in
    omega arith

top_even : (h : Shape) → h.base % h.unit ≡ 0 → covered_end h % h.unit ≡ 0
top_even h even = add-mul-mod_self_right h.base (units_of h) h.unit ∙ even

max_even : (x y u : ℕ) → x % u ≡ 0 → y % u ≡ 0 → max x y % u ≡ 0
max_even x y u p q =
    elim (cases_lt x y) [
      | inl l ↦ let e : max x y ≡ y = omega arith in rw e q
      | inr l ↦ let e : max x y ≡ x = omega arith in rw e p
    ]

min_even : (x y u : ℕ) → x % u ≡ 0 → y % u ≡ 0 → min x y % u ≡ 0
min_even x y u p q =
    elim (cases_lt x y) [
      | inl l ↦ let e : min x y ≡ x = omega arith in rw e p
      | inr l ↦ let e : min x y ≡ y = omega arith in rw e q
    ]

module _ (h : Shape) (s : Range) (some : 0 < h.unit) (even : h.base % h.unit ≡ 0) where
  abbrev low : ℕ
  low = inner_low h s

  abbrev high : ℕ
  high = inner_high h s

  -- the units inside begin and end there
  first_at : unit_at h (inner_units h s).first ≡ max low h.base
  first_at = exact h (max low h.base) even (max_even low h.base h.unit (up_even s.start h.unit some) even) (omega arith)

  behind_at : h.base ≤ min high (covered_end h) → unit_at h (inner_units h s).behind ≡ min high (covered_end h)
  behind_at l = exact h (min high (covered_end h)) even (min_even high (covered_end h) h.unit (down_even s.end h.unit) (top_even h even)) l

  behind_low : min high (covered_end h) < h.base → unit_at h (inner_units h s).behind ≡ h.base
  behind_low l =
      let z : min high (covered_end h) - h.base ≡ 0 = omega arith in
      let k : (inner_units h s).behind ≡ 0 = rw z (zero-div h.unit) in
      rw k (omega arith)

  pub inner_from : (a : ℕ) → Holds (addresses_of h (inner_units h s)) a → (low ≤ a) × (h.base ≤ a) × (a < high) × (a < covered_end h)
  inner_from a i =
      let f = first_at in
      elim (cases_lt (min high (covered_end h)) h.base) [
        | inl l ↦ absurd (omega (arith, behind_low l))
        | inr l ↦ let b = behind_at l in (omega arith, omega arith, omega arith, omega arith)
      ]

  pub inner_to : (a : ℕ) → low ≤ a → h.base ≤ a → a < high → a < covered_end h → Holds (addresses_of h (inner_units h s)) a
  inner_to a x y z w =
      let f = first_at in
      let b = behind_at (omega arith) in
      (omega arith, omega arith)

  pub inner_few : (inner_units h s).behind ≤ units_of h
  inner_few =
      let l : min high (covered_end h) - h.base < (units_of h + 1) * h.unit = omega (arith, add-mul (units_of h) 1 h.unit, one-mul h.unit) in
      omega (arith, (div-lt_iff_lt-mul {k = h.unit} {x = min high (covered_end h) - h.base} {y = units_of h + 1} some).1 l)

  -- all addresses of orders are addresses of s, and all addresses of s are addresses of one of them
  abbrev pub Makes : List Order → Type 0
  Makes os = (a : ℕ) → (Held h a os → Holds s a) × (Holds s a → Held h a os)

  whole : Makes (walking 1 s ∷ [])
  whole a = (back, λ i. here i)
    where
      back : Held h a (walking 1 s ∷ []) → Holds s a
      back (here i) = i
      back (there i) = elim i [ ]

  cut : 2 * h.unit ≤ s.end - s.start
      → Makes (walking 2 (range s.start low) ∷ walking 3 (range high s.end) ∷ walking 4 (range low (min high h.base)) ∷ marking (inner_units h s) ∷ walking 6 (range (max low (covered_end h)) high) ∷ [])
  cut wide a = (back, λ i. forth i (cases_lt a low) (cases_lt a high) (cases_lt a h.base) (cases_lt a (covered_end h)))
    where
      from_low : s.start ≤ low
      from_low = up_low s.start h.unit

      to_high : high ≤ s.end
      to_high = down_high s.end h.unit

      between : low ≤ high
      between = omega (arith, up_high s.start h.unit some, down_low s.end h.unit some)

      back : Held h a (walking 2 (range s.start low) ∷ walking 3 (range high s.end) ∷ walking 4 (range low (min high h.base)) ∷ marking (inner_units h s) ∷ walking 6 (range (max low (covered_end h)) high) ∷ []) → Holds s a
      back (here i) = (i.0, omega (arith, from_low, to_high, between, i.1))
      back (there (here i)) = (omega (arith, from_low, to_high, between, i.0), i.1)
      back (there (there (here i))) = (omega (arith, from_low, i.0), omega (arith, to_high, i.1))
      back (there (there (there (here i)))) = let j = inner_from a i in (omega (arith, from_low, j.0), omega (arith, to_high, j.2))
      back (there (there (there (there (here i))))) = (omega (arith, from_low, i.0), omega (arith, to_high, i.1))
      back (there (there (there (there (there i))))) = elim i [ ]

      forth : Holds s a → (a < low) ⊎ (low ≤ a) → (a < high) ⊎ (high ≤ a) → (a < h.base) ⊎ (h.base ≤ a) → (a < covered_end h) ⊎ (covered_end h ≤ a)
          → Held h a (walking 2 (range s.start low) ∷ walking 3 (range high s.end) ∷ walking 4 (range low (min high h.base)) ∷ marking (inner_units h s) ∷ walking 6 (range (max low (covered_end h)) high) ∷ [])
      forth i (inl c) d e f = here (i.0, c)
      forth i (inr c) (inr d) e f = there (here (d, i.1))
      forth i (inr c) (inl d) (inl e) f = there (there (here (c, omega arith)))
      forth i (inr c) (inl d) (inr e) (inl f) = there (there (there (here (inner_to a c e d f))))
      forth i (inr c) (inl d) (inr e) (inr f) = there (there (there (there (here (omega arith, d)))))

  pub parts_make : Makes (parts_of h s)
  parts_make =
      cond_both (ltb (s.end - s.start) (2 * h.unit)) _ _ Makes (λ e. whole) (λ e. cut (ltb-false (s.end - s.start) (2 * h.unit) e))

  pub parts_below : Below (units_of h) (parts_of h s)
  parts_below = cond_both (ltb (s.end - s.start) (2 * h.unit)) _ _ (Below (units_of h)) (λ e. tt) (λ e. (inner_few, tt))
