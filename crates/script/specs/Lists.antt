-- Lists by their runs: a value, some times.
use Rattle.std.specs.Prelude.{◌≡◌, ◌≢◌, ℕ, ◌<◌, ◌==◌, Bool, List, [], ◌∷◌, ◌++◌, codes, if◌then◌else◌, nat_lt, length, replicate, All}
use Rattle.std.specs.Fmt.{decimal}
use Rattle.std.specs.List.{after_first, before_first, flat_map, position_or_len}
use Rattle.script.specs.declared.list.Repeated.{Repeated}
use Rattle.script.specs.Numbers.{IsNumber, hexadecimal, number_of}

-- x n times
abbrev pub times_over : Repeated → List ℕ
times_over r = replicate r.times r.value

-- the list that runs are, one after the other
abbrev pub expanded : List Repeated → List ℕ
expanded runs = flat_map times_over runs

-- is a byte `*`?
abbrev pub is_star : ℕ → Bool
is_star b = b == 42

-- has a word a `*`?
abbrev pub has_star : List ℕ → Bool
has_star word = nat_lt (position_or_len is_star word) (length word)

-- how often the value before a `*` stands there: once where there is no `*`
abbrev pub times_in : List ℕ → ℕ
times_in word = if has_star word then number_of (after_first is_star word) else 1

-- x or x*n
abbrev pub IsRepeated : List ℕ → Type 0
IsRepeated word = IsNumber (before_first is_star word) × IsNumber (if has_star word then after_first is_star word else codes "1")

-- what the word writes
abbrev pub repeated_in : List ℕ → Repeated
repeated_in word = record { value = number_of (before_first is_star word); times = times_in word }

-- a run as it is printed
abbrev pub text_of : Repeated → List ℕ
text_of r = hexadecimal r.value ++ (if r.times == 1 then [] else (codes "*" ++ decimal r.times))

-- no run has the value of the next one
abbrev pub NeighboursDiffer : List Repeated → Type 0
NeighboursDiffer [] = Unit {0}
NeighboursDiffer (r ∷ []) = Unit {0}
NeighboursDiffer (r ∷ s ∷ runs) = (r.value ≢ s.value) × NeighboursDiffer (s ∷ runs)

-- the runs are the list, as long as they can be
pub record AreRunsOf (runs : List Repeated) (list : List ℕ) : Type 0 where
  pub whole : expanded runs ≡ list
  pub some : All (λ r. 0 < r.times) runs
  pub longest : NeighboursDiffer runs
