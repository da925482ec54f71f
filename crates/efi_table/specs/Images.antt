-- A table's header in the first three words of an image.
use Rattle.std.specs.Prelude.{ℕ, ◌+◌, ◌*◌, ◌/◌, ◌%◌, ◌^◌, Bool, true, not, ◌&&◌, ◌||◌, List, [], ◌∷◌, ◌++◌, length, drop, Ok, Err, Result, if◌then◌else◌, ◌==◌, nat_le, nat_lt, slice_index}
use Rattle.std.specs.Int.{is_power_of_two}
use Rattle.fault.specs.declared.AcceptError.{AcceptError}
use Rattle.fault.specs.declared.AcceptError.TheVariants.{WrongImage, BadVersion, BadUnit, BadBitmap, BadCoverage}
use Rattle.efi_table.specs.Shapes.{Shape, shape, covered_end, bitmap_end}

-- word 0 has the version in its low 32 bits, and the unit size in its high 32
abbrev pub version_in : ℕ → ℕ
version_in w = w % 2 ^ 32

abbrev pub unit_in : ℕ → ℕ
unit_in w = w / 2 ^ 32

abbrev pub first_word : ℕ → ℕ
first_word unit = 1 + unit * 2 ^ 32

-- the three words of a header
abbrev pub written : Shape → List ℕ
written s = first_word s.unit ∷ s.base ∷ s.length ∷ []

-- a bitmap is a whole number of words, and not none
abbrev pub bad_length : ℕ → Bool
bad_length n = n == 0 || not (n % 8 == 0)

-- the header that three words hold, where a table may lie at their place
abbrev pub decoded : Bool → ℕ → ℕ → ℕ → Result Shape AcceptError
decoded placed w base n =
    if not (version_in w == 1) then Err BadVersion
    else (if not (is_power_of_two (unit_in w)) then Err BadUnit
    else (if not placed || bad_length n then Err BadBitmap
    else (if nat_le (2 ^ 64) (covered_end (shape (unit_in w) base n)) then Err BadCoverage else Ok (shape (unit_in w) base n))))

abbrev pub decoded_from : Bool → List ℕ → Result Shape AcceptError
decoded_from placed img = if nat_lt (length img) 3 then Err WrongImage else decoded placed (slice_index img 0) (slice_index img 1) (slice_index img 2)

-- the header that an image begins with
abbrev pub header_in : List ℕ → Result Shape AcceptError
header_in = decoded_from true

-- is the image that of the table
abbrev pub is_image : Shape → List ℕ → Bool
is_image s img =
    nat_le 3 (length img) && slice_index img 0 == first_word s.unit && slice_index img 1 == s.base && slice_index img 2 == s.length
    && nat_le (bitmap_end s) (length img)

abbrev pub image_checked : Shape → List ℕ → Result (Unit {0}) AcceptError
image_checked s img = if is_image s img then Ok tt else Err WrongImage

-- an image under three words is refused, and stays as it is
abbrev pub write_answer : List ℕ → Result (Unit {0}) AcceptError
write_answer img = if nat_lt (length img) 3 then Err WrongImage else Ok tt

abbrev pub after_write : Shape → List ℕ → List ℕ
after_write s img = if nat_lt (length img) 3 then img else written s ++ drop 3 img
