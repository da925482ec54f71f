-- The numbers that words write: decimal digits, or hexadecimal ones behind 0x.
use Rattle.std.specs.Prelude.{◌≡◌, ℕ, ◌<◌, ◌^◌, Bool, false, List, ◌++◌, drop, codes, if◌then◌else◌, nat_eq}
use Rattle.std.specs.Fmt.{decimal, digits}
use Rattle.std.specs.List.{starts_with}
use Rattle.std.specs.Str.Parse.{IsNumeral, digits_value}

-- does the word begin with 0x?
abbrev pub is_hexadecimal : List ℕ → Bool
is_hexadecimal word = starts_with nat_eq word (codes "0x")

abbrev pub base_of : List ℕ → ℕ
base_of word = if is_hexadecimal word then 16 else 10

abbrev pub digits_in : List ℕ → List ℕ
digits_in word = if is_hexadecimal word then drop 2 word else word

-- the word has one digit or more of its base, and nothing else
abbrev pub IsWritten : List ℕ → Type 0
IsWritten word = IsNumeral (base_of word) (digits_in word)

-- the value of the digits
abbrev pub number_of : List ℕ → ℕ
number_of word = digits_value (base_of word) (digits_in word)

-- the word writes a number of 64 bits
abbrev pub IsNumber : List ℕ → Type 0
IsNumber word = IsWritten word × (number_of word < 2 ^ 64)

-- a number as it is printed
abbrev pub hexadecimal : ℕ → List ℕ
hexadecimal n = codes "0x" ++ digits 16 false n

-- a number of 64 bits that is printed is read back, in either base
pub record ReadsBack : Type 0 where
  pub hexadecimal : (n : ℕ) → n < 2 ^ 64 → IsNumber (hexadecimal n) × (number_of (hexadecimal n) ≡ n)
  pub decimal : (n : ℕ) → n < 2 ^ 64 → IsNumber (decimal n) × (number_of (decimal n) ≡ n)
