-- The runs of a list.
use Rattle.std.specs.Prelude.{◌≡◌, ℕ, ◌+◌, ◌-◌, ◌<◌, ◌≤◌, Bool, true, false, List, [], ◌++◌, length, slice_index_or, Option, MatchOption}

-- the items of xs from i to the one before j are a run: each goes on from the one before it, and the one behind does not
pub record RunEnd {T : Type 0} (chained : T → T → Bool) (xs : List T) (i j : ℕ) : Type 0 where
  pub within : i < length xs → j ≤ length xs
  pub some : i < length xs → i < j
  pub none : length xs ≤ i → j ≡ i
  pub on : (k : ℕ) (d : T) → i ≤ k → k + 1 < j → chained (slice_index_or xs (k + 1) d) (slice_index_or xs k d) ≡ true
  pub ends : (d : T) → i < j → j < length xs → chained (slice_index_or xs j d) (slice_index_or xs (j - 1) d) ≡ false

-- the first run of xs, and what is left behind it; none where nothing is left
abbrev pub NextRun : {T : Type 0} → (T → T → Bool) → List T → Option (List T) → List T → Type 0
NextRun chained xs r rest = MatchOption r ((xs ≡ []) × (rest ≡ [])) (λ run. (xs ≡ run ++ rest) × ((0 < length run) × RunEnd chained xs 0 (length run)))
