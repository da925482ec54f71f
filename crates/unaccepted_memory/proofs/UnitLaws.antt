-- Units, their addresses and their marks.
use Rattle.std.proofs.Common.{◌≡◌, ℕ, ◌+◌, ◌-◌, ◌*◌, ◌/◌, ◌<◌, ◌≤◌, ◌⊎◌, List, length, sym, ◌∙◌, inl, inr, mul-le-mul_right, div-lt_iff_lt-mul, add-mul, one-mul, le-div_iff_mul-le, div-mul-le_self, arith}
use native.Mathlib.Nat.{lt-div-mul-add}
use Rattle.std.proofs.lemmas.Bool.{cases_lt, cases_order}
use Rattle.bitmap.specs.Marks.{marked, units_set, units_cleared}
use Rattle.bitmap.proofs.MarkLaws.{marked_past, in_or_out, written_inside, written_outside}
use Rattle.efi_table.specs.Shapes.{Shape, unit_at}
use Rattle.unaccepted_memory.specs.Runs.{Run}
use Rattle.unaccepted_memory.specs.Plans.{addresses_of}
use Rattle.unaccepted_memory.specs.Promises.{Holds, InUnit, Marked}

pub unit_mono : (h : Shape) (i j : ℕ) → i ≤ j → unit_at h i ≤ unit_at h j
unit_mono h i j le = let m = mul-le-mul_right h.unit le in omega arith

pub unit_next : (h : Shape) (k : ℕ) → unit_at h (k + 1) ≡ unit_at h k + h.unit
unit_next h k = omega (arith, add-mul k 1 h.unit, one-mul h.unit)

-- the unit of an address among the units of a run
pub unit_found : (h : Shape) → 0 < h.unit → (r : Run) (a : ℕ) → Holds (addresses_of h r) a
    → (k : ℕ) × (r.first ≤ k) × (k < r.behind) × InUnit h k a
unit_found h some r a (from, to) =
    let x : ℕ = a - h.base in
    let k : ℕ = x / h.unit in
    let low : r.first ≤ k = (le-div_iff_mul-le {k = h.unit} {x = r.first} {y = x} some).1 (omega arith) in
    let high : k < r.behind = (div-lt_iff_lt-mul {k = h.unit} {x = x} {y = r.behind} some).1 (omega arith) in
    let down : k * h.unit ≤ x = div-mul-le_self x h.unit in
    let up : x < k * h.unit + h.unit = lt-div-mul-add {a = x} some in
    (k, low, high, (omega arith, omega (arith, unit_next h k)))

-- a unit of a run lies in its addresses
pub unit_inside : (h : Shape) (r : Run) (k a : ℕ) → r.first ≤ k → k < r.behind → InUnit h k a → Holds (addresses_of h r) a
unit_inside h r k a low high i =
    let m = unit_mono h r.first k low in
    let n = unit_mono h (k + 1) r.behind (omega arith) in
    (omega arith, omega arith)

-- an address is in one unit
pub unit_one : (h : Shape) (k j a : ℕ) → InUnit h k a → InUnit h j a → k ≡ j
unit_one h k j a p q =
    elim (cases_order k j) [
      | inl e ↦ e
      | inr (inl l) ↦ absurd (let m = unit_mono h (k + 1) j (omega arith) in omega arith)
      | inr (inr l) ↦ absurd (let m = unit_mono h (j + 1) k (omega arith) in omega arith)
    ]

-- marks after a range of units was marked or cleared
module _ (ws : List ℕ) (a b k : ℕ) where
  pub set_keeps : marked ws k ≡ 1 → marked (units_set ws a b) k ≡ 1
  set_keeps m =
      elim (in_or_out a b k) [
        | inl i ↦ elim (cases_lt k (64 * length ws)) [
          | inl l ↦ written_inside 1 (omega arith) ws a b k l i.0 i.1
          | inr l ↦ absurd (omega (arith, marked_past ws k l))
        ]
        | inr o ↦ written_outside 1 (omega arith) ws a b k o ∙ m
      ]

  pub set_here : k < 64 * length ws → a ≤ k → k < b → marked (units_set ws a b) k ≡ 1
  set_here = written_inside 1 (omega arith) ws a b k

  pub set_cases : marked (units_set ws a b) k ≡ 1 → ((a ≤ k) × (k < b)) ⊎ (marked ws k ≡ 1)
  set_cases m =
      elim (in_or_out a b k) [
        | inl i ↦ inl i
        | inr o ↦ inr (sym (written_outside 1 (omega arith) ws a b k o) ∙ m)
      ]

  pub clear_cases : marked ws k ≡ 1 → (marked (units_cleared ws a b) k ≡ 1) ⊎ ((a ≤ k) × (k < b))
  clear_cases m =
      elim (in_or_out a b k) [
        | inl i ↦ inr i
        | inr o ↦ inl (written_outside 0 (omega arith) ws a b k o ∙ m)
      ]

  pub clear_less : marked (units_cleared ws a b) k ≡ 1 → marked ws k ≡ 1
  clear_less m =
      elim (in_or_out a b k) [
        | inl i ↦ elim (cases_lt k (64 * length ws)) [
          | inl l ↦ absurd (omega (arith, written_inside 0 (omega arith) ws a b k l i.0 i.1))
          | inr l ↦ absurd (omega (arith, marked_past (units_cleared ws a b) k (omega (arith, long))))
        ]
        | inr o ↦ sym (written_outside 0 (omega arith) ws a b k o) ∙ m
      ]
    where
      long : length (units_cleared ws a b) ≡ length ws
      long = Rattle.bitmap.proofs.MarkLaws.length_written 0 ws a b

-- the same by addresses
module _ (h : Shape) (ws : List ℕ) (r : Run) (a : ℕ) where
  pub set_keeps_at : Marked h ws a → Marked h (units_set ws r.first r.behind) a
  set_keeps_at (k, m, i) = (k, set_keeps ws r.first r.behind k m, i)

  pub set_cases_at : Marked h (units_set ws r.first r.behind) a → Holds (addresses_of h r) a ⊎ Marked h ws a
  set_cases_at (k, m, i) =
      elim (set_cases ws r.first r.behind k m) [
        | inl p ↦ inl (unit_inside h r k a p.0 p.1 i)
        | inr p ↦ inr (k, p, i)
      ]

  pub set_here_at : 0 < h.unit → r.behind ≤ 64 * length ws → Holds (addresses_of h r) a → Marked h (units_set ws r.first r.behind) a
  set_here_at some fits i =
      let u = unit_found h some r a i in
      (u.0, set_here ws r.first r.behind u.0 (omega (arith, u.2)) u.1 u.2, u.3)

  pub clear_cases_at : Marked h ws a → Marked h (units_cleared ws r.first r.behind) a ⊎ Holds (addresses_of h r) a
  clear_cases_at (k, m, i) =
      elim (clear_cases ws r.first r.behind k m) [
        | inl p ↦ inl (k, p, i)
        | inr p ↦ inr (unit_inside h r k a p.0 p.1 i)
      ]

  -- what was cleared is not marked
  pub cleared_at : 0 < h.unit → Holds (addresses_of h r) a → Marked h (units_cleared ws r.first r.behind) a → ⊥
  cleared_at some i (k, m, j) =
      let u = unit_found h some r a i in
      let e : k ≡ u.0 = unit_one h k u.0 a j u.3 in
      let m' : marked (units_cleared ws r.first r.behind) u.0 ≡ 1 = rw e at m in
      elim (cases_lt u.0 (64 * length ws)) [
        | inl l ↦ omega (arith, written_inside 0 (omega arith) ws r.first r.behind u.0 l u.1 u.2)
        | inr l ↦ omega (arith, marked_past ws u.0 l, clear_less ws r.first r.behind u.0 m')
      ]

  pub clear_less_at : Marked h (units_cleared ws r.first r.behind) a → Marked h ws a
  clear_less_at (k, m, i) = (k, clear_less ws r.first r.behind k m, i)
