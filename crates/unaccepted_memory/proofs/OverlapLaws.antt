-- The units that the addresses of a claim overlap.
use Rattle.std.proofs.Common.{◌≡◌, ℕ, ◌-◌, ◌*◌, ◌/◌, ◌<◌, ◌≤◌, Some, Option, ◌∙◌, ap₂, mul-le-mul_right, mul-lt-mul_of_pos_right, mul-div_cancel, arith}
use Rattle.std.specs.Int.{div_ceil}
use native.Mathlib.Nat.{mul-mod_left}
use Rattle.std.proofs.lemmas.Bool.{cond-true, lt-ltb}
use Rattle.efi_table.specs.Shapes.{Shape, unit_at, units_of, window_low, window_high, overlap_of}

-- the addresses of units x to y - 1 overlap these units
pub own_overlap : (h : Shape) (x y : ℕ) → 0 < h.unit → x < y → y ≤ units_of h → overlap_of h (unit_at h x) (unit_at h y) ≡ Some (x, y, h.unit)
own_overlap h x y some l fits =
    let u : ℕ = h.unit in
    let lt : x * u < y * u = mul-lt-mul_of_pos_right l some in
    let le : y * u ≤ units_of h * u = mul-le-mul_right u fits in
    let low : window_low h (unit_at h x) - h.base ≡ x * u = omega arith in
    let high : window_high h (unit_at h y) - h.base ≡ y * u = omega arith in
    let first : (window_low h (unit_at h x) - h.base) / u ≡ x = rw low (mul-div_cancel x some) in
    let last : div_ceil (window_high h (unit_at h y) - h.base) u ≡ y = rw high (omega (arith, mul-div_cancel y some, mul-mod_left y u)) in
    let three : ℕ → ℕ → Option (ℕ × ℕ × ℕ) = λ a b. Some (a, b, u) in
    cond-true _ _ _ (lt-ltb (window_low h (unit_at h x)) (window_high h (unit_at h y)) (omega arith))
    ∙ ap₂ three first last
