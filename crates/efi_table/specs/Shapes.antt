-- The numbers of a table, and where its units lie.
use Rattle.std.specs.Prelude.{◌≡◌, ℕ, ◌+◌, ◌-◌, ◌*◌, ◌/◌, ◌%◌, ◌^◌, ◌<◌, min, max, true, Some, None, Option, if◌then◌else◌, nat_lt}
use Rattle.std.specs.Int.{div_ceil, is_power_of_two}

-- unit size and base address, and the length of the bitmap in bytes
pub record Shape : Type 0 where
  pub unit : ℕ
  pub base : ℕ
  pub length : ℕ

abbrev pub shape : ℕ → ℕ → ℕ → Shape
shape u b l = record { unit = u; base = b; length = l }

-- how many units: one for each bit
abbrev pub units_of : Shape → ℕ
units_of s = s.length * 8

-- how many addresses they hold
abbrev pub size_of : Shape → ℕ
size_of s = units_of s * s.unit

-- unit k holds the addresses from this one up to that of unit k + 1
abbrev pub unit_at : Shape → ℕ → ℕ
unit_at s k = s.base + k * s.unit

abbrev pub covered_end : Shape → ℕ
covered_end s = unit_at s (units_of s)

-- what a header of version 1 keeps
pub record IsHeader (s : Shape) : Type 0 where
  pub power : is_power_of_two s.unit ≡ true
  pub whole : s.length % 8 ≡ 0
  pub some : 0 < s.length
  pub room : covered_end s < 2 ^ 64
  -- these two follow from the others
  pub positive : 0 < s.unit
  pub few : units_of s < 2 ^ 64

-- the word of the image behind its bitmap
abbrev pub bitmap_end : Shape → ℕ
bitmap_end s = 3 + s.length / 8

-- the address of a unit; a number past the last unit counts as the one behind it
abbrev pub unit_address : Shape → ℕ → ℕ
unit_address s k = unit_at s (min k (units_of s))

-- what a window and the coverage have in common
abbrev pub window_low : Shape → ℕ → ℕ
window_low s from = max from s.base

abbrev pub window_high : Shape → ℕ → ℕ
window_high s to = min to (covered_end s)

-- the first unit that the window from one address to another touches, the unit behind the last, and the unit size
abbrev pub overlap_of : Shape → ℕ → ℕ → Option (ℕ × ℕ × ℕ)
overlap_of s from to =
    if nat_lt (window_low s from) (window_high s to)
    then Some ((window_low s from - s.base) / s.unit, div_ceil (window_high s to - s.base) s.unit, s.unit)
    else None
