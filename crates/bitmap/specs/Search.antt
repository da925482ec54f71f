-- Searching a range of units for the first at which a function is 1: for marks, `marked` of the words, and for gaps, `gap`.
use Rattle.std.specs.Prelude.{◌≡◌, ℕ, ◌<◌, ◌≤◌, min, Bool, true, false, List, Some, None, Option}
use Rattle.bitmap.specs.Marks.{capacity_of}

-- f is 0 at each unit from a to b - 1
abbrev pub Nowhere : (ℕ → ℕ) → ℕ → ℕ → Type 0
Nowhere f a b = (k : ℕ) → a ≤ k → k < b → f k ≡ 0

-- k is the first unit from a to b - 1 at which f is 1
pub record First (f : ℕ → ℕ) (a b k : ℕ) : Type 0 where
  pub from : a ≤ k
  pub to : k < b
  pub here : f k ≡ 1
  pub before : Nowhere f a k

-- what a search of the units from a to b - 1 answers
abbrev pub Finds : (ℕ → ℕ) → ℕ → ℕ → Option ℕ → Type 0
Finds f a b None = Nowhere f a b
Finds f a b (Some k) = First f a b k

-- f is 1 at some unit from a to b - 1
pub record Somewhere (f : ℕ → ℕ) (a b : ℕ) : Type 0 where
  pub unit : ℕ
  pub from : a ≤ unit
  pub to : unit < b
  pub here : f unit ≡ 1

-- what the question whether f is 1 at some unit from a to b - 1 answers
abbrev pub Tells : (ℕ → ℕ) → ℕ → ℕ → Bool → Type 0
Tells f a b true = Somewhere f a b
Tells f a b false = Nowhere f a b

-- The same of the words ws, for `marked` or `gap`: the range is cut to the capacity.
abbrev pub FindsUnit : (List ℕ → ℕ → ℕ) → List ℕ → ℕ → ℕ → Option ℕ → Type 0
FindsUnit f ws a b found = Finds (f ws) a (min b (capacity_of ws)) found

abbrev pub TellsUnit : (List ℕ → ℕ → ℕ) → List ℕ → ℕ → ℕ → Bool → Type 0
TellsUnit f ws a b told = Tells (f ws) a (min b (capacity_of ws)) told
