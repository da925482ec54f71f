-- What follows for marks and words, over the definitions that the contracts cite.
use Rattle.std.specs.Prelude.{◌≡◌, ℕ, ◌*◌, ◌<◌, List, length, Option}
use Rattle.bitmap.specs.Marks.{marked, gap, Words64, units_set, units_cleared}
use Rattle.bitmap.specs.Search.{Nowhere, Finds}

-- The marks tell the words: as many words with the same marks are the same words.
abbrev pub MarksTell : Type 0
MarksTell = (us vs : List ℕ) → length us ≡ length vs → Words64 us → Words64 vs
    → ((k : ℕ) → k < 64 * length us → marked us k ≡ marked vs k) → us ≡ vs

-- A search has one answer.
abbrev pub FoundOnce : Type 0
FoundOnce = (f : ℕ → ℕ) (a b : ℕ) (r s : Option ℕ) → Finds f a b r → Finds f a b s → r ≡ s

-- Setting a range that has no mark, and then clearing it, gives the words back.
abbrev pub SetThenClear : Type 0
SetThenClear = (ws : List ℕ) (a b : ℕ) → Words64 ws → Nowhere (marked ws) a b → units_cleared (units_set ws a b) a b ≡ ws

-- Clearing a range that has no gap, and then setting it, gives the words back.
abbrev pub ClearThenSet : Type 0
ClearThenSet = (ws : List ℕ) (a b : ℕ) → Words64 ws → Nowhere (gap ws) a b → units_set (units_cleared ws a b) a b ≡ ws
