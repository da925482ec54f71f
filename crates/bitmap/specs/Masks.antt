-- How the code reaches units a word at a time. Nothing outside this crate speaks of masks.
use Rattle.std.specs.Prelude.{ℕ, ◌-◌, ◌*◌, ◌^◌, min, List, bit_and, bit_or}
use Rattle.bitmap.specs.declared.Mark.{Mark}
use Rattle.bitmap.specs.declared.Mark.TheVariants.{Set, Clear}
use Rattle.bitmap.specs.Marks.{marked, gap}

-- the word with bits lo to hi - 1 set
abbrev pub bits_from : ℕ → ℕ → ℕ
bits_from lo hi = 2 ^ hi - 2 ^ lo

-- the bits of word w that are units from a to b - 1
unfoldable pub share : ℕ → ℕ → ℕ → ℕ
share a b w = bits_from (a - 64 * w) (min (b - 64 * w) 64)

-- a mark as a bit
abbrev pub as_bit : Mark → ℕ
as_bit Set = 1
as_bit Clear = 0

-- the word x with the mark for the bits m
abbrev pub put : Mark → ℕ → ℕ → ℕ
put Set x m = bit_or x m
put Clear x m = bit_and x (2 ^ 64 - 1 - m)

-- the bits of the word x that have the mark
abbrev pub bits_of : Mark → ℕ → ℕ
bits_of Set x = x
bits_of Clear x = 2 ^ 64 - 1 - x

-- 1 where a unit has the mark
abbrev pub matching : Mark → List ℕ → ℕ → ℕ
matching Set ws k = marked ws k
matching Clear ws k = gap ws k
