-- Units and their marks: bit n of word w, the lowest being bit 0, is unit 64 * w + n, and a unit whose bit is 1 is marked.
use Rattle.std.specs.Prelude.{◌≡◌, ℕ, zero, suc, ◌+◌, ◌-◌, ◌*◌, ◌/◌, ◌%◌, ◌^◌, ◌<◌, ◌≤◌, min, if◌then◌else◌, ◌&&◌, ◌⊎◌, List, map, length, replicate, sum_by, nat_le, nat_lt, slice_index}
use Rattle.std.specs.Int.{bit_at}
use Rattle.std.specs.List.{range_with_len}

-- 1 where unit k of the words is marked, 0 where it is not or lies behind the last word
unfoldable pub marked : List ℕ → ℕ → ℕ
marked ws k = bit_at (slice_index ws (k / 64)) (k % 64)

-- 1 where unit k is a gap, that is not marked
abbrev pub gap : List ℕ → ℕ → ℕ
gap ws k = 1 - marked ws k

-- how many units the words have, as far as a 64-bit number can tell it
abbrev pub capacity_of : List ℕ → ℕ
capacity_of ws = min (64 * length ws) (2 ^ 64 - 1)

-- words of 64 bits
abbrev pub Words64 : List ℕ → Type 0
Words64 ws = (w : ℕ) → slice_index ws w < 2 ^ 64

-- the number whose n lowest bits are f of the units from k on, the first of them the lowest
unfoldable pub packed : (ℕ → ℕ) → ℕ → ℕ → ℕ
packed f k zero = 0
packed f k (suc n) = f k + 2 * packed f (k + 1) n

-- n words that are marked where f is 1
unfoldable pub words_of : (ℕ → ℕ) → ℕ → List ℕ
words_of f n = map (λ w. packed f (64 * w) 64) (range_with_len 0 n)

-- f, with the value v for the units from a to b - 1
unfoldable pub written : ℕ → ℕ → ℕ → (ℕ → ℕ) → ℕ → ℕ
written v a b f k = if nat_le a k && nat_lt k b then v else f k

-- the words with the units from a to b - 1 marked (v is 1) or clear (v is 0), as far as there are words for them
unfoldable pub units_written : ℕ → List ℕ → ℕ → ℕ → List ℕ
units_written v ws a b = words_of (written v a b (marked ws)) (length ws)

abbrev pub units_set : List ℕ → ℕ → ℕ → List ℕ
units_set ws a b = units_written 1 ws a b

abbrev pub units_cleared : List ℕ → ℕ → ℕ → List ℕ
units_cleared ws a b = units_written 0 ws a b

-- as many words, with no unit marked
abbrev pub zeroed : List ℕ → List ℕ
zeroed ws = replicate (length ws) 0

-- What writing v to the units from a to b - 1 means: of the words us it makes the words vs.
pub record RangeWritten (v : ℕ) (us vs : List ℕ) (a b : ℕ) : Type 0 where
  -- each unit of the range that there is has v,
  pub inside : (k : ℕ) → k < 64 * length us → a ≤ k → k < b → marked vs k ≡ v
  -- and every other unit is as it was
  pub outside : (k : ℕ) → (k < a) ⊎ (b ≤ k) → marked vs k ≡ marked us k

-- how many units are marked
abbrev pub unit_count : List ℕ → ℕ
unit_count ws = sum_by (marked ws) (range_with_len 0 (64 * length ws))
