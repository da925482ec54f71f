-- How large a table is, and what building one checks.
use Rattle.std.specs.Prelude.{ℕ, ◌+◌, ◌-◌, ◌*◌, ◌/◌, ◌%◌, ◌^◌, min, max, ◌||◌, List, [], ◌∷◌, length, Some, None, Ok, Err, Option, Result, if◌then◌else◌, ◌==◌, nat_le, nat_lt}
use Rattle.std.specs.Int.{div_ceil, next_multiple_of}
use Rattle.fault.specs.declared.AcceptError.{AcceptError}
use Rattle.fault.specs.declared.AcceptError.TheVariants.{OutOfBounds, ArithmeticOverflow}
use Rattle.efi_table.specs.declared.layout.Range.{Range}
use Rattle.efi_table.specs.Shapes.{Shape, shape, unit_address, covered_end}

-- the highest multiple that is not above an address; of 0, only 0 is a multiple
abbrev pub aligned_down : ℕ → ℕ → ℕ
aligned_down a n = a - a % n

-- the lowest multiple that is not below an address, as an address, which is below 2 ^ 64
abbrev pub address_up : ℕ → ℕ → Option ℕ
address_up a n = if n == 0 || nat_le (2 ^ 64) (next_multiple_of a n) then None else Some (next_multiple_of a n)

abbrev pub range : ℕ → ℕ → Range
range from to = record { start = from; end = to }

-- the addresses of the units from one to the one before another
abbrev pub units_range : Shape → ℕ → ℕ → Range
units_range s first last = range (unit_address s first) (unit_address s last)

-- what the ranges of a list cover, over the lowest start and the highest end so far
abbrev pub covering : ℕ → ℕ → List Range → Result Range AcceptError
covering low high [] = Ok (range low high)
covering low high (r ∷ rs) = if nat_le r.end r.start then Err OutOfBounds else covering (min low r.start) (max high r.end) rs

-- the coverage of a list of 1 to 1024 ranges
abbrev pub coverage_of : List Range → Result Range AcceptError
coverage_of rs = if length rs == 0 || nat_lt 1024 (length rs) then Err OutOfBounds else covering (2 ^ 64 - 1) 0 rs

-- the unit size of a table that is built
abbrev pub built_unit : ℕ
built_unit = 2 ^ 21

-- the words of a bitmap for the coverage from one address to another, both rounded outward to units
abbrev pub words_for : ℕ → ℕ → ℕ
words_for from to = div_ceil ((next_multiple_of to built_unit - aligned_down from built_unit) / built_unit) 64

-- the table for a coverage
abbrev pub built_shape : ℕ → ℕ → Shape
built_shape from to = shape built_unit (aligned_down from built_unit) (8 * words_for from to)

-- what the size call checks
abbrev pub words_asked : ℕ → ℕ → Result ℕ AcceptError
words_asked from to =
    if nat_le to from then Err OutOfBounds
    else (if nat_lt (2 ^ 64 - 2 ^ 21) to then Err ArithmeticOverflow else Ok (words_for from to))

-- the bytes of the image of a table for a coverage
abbrev pub size_asked : ℕ → ℕ → Result ℕ AcceptError
size_asked from to =
    if nat_le to from then Err OutOfBounds
    else (if nat_lt (2 ^ 64 - 2 ^ 21) to then Err ArithmeticOverflow else Ok (24 + 8 * words_for from to))

-- and of a table for a list of ranges
abbrev pub size_over : Result Range AcceptError → Result ℕ AcceptError
size_over (Ok r) = size_asked r.start r.end
size_over (Err e) = Err e

-- the table that building makes in an image of some words
abbrev pub building : ℕ → ℕ → ℕ → Result Shape AcceptError
building from to held =
    if nat_le to from then Err OutOfBounds
    else (if nat_lt (2 ^ 64 - 2 ^ 21) to then Err ArithmeticOverflow
    else (if nat_le (2 ^ 64) (covered_end (built_shape from to)) then Err ArithmeticOverflow
    else (if nat_lt held (3 + words_for from to) then Err OutOfBounds else Ok (built_shape from to))))
