-- What every walk keeps.
use Rattle.std.specs.Prelude.{◌≡◌, ℕ, ◌+◌, ◌*◌, ◌/◌, ◌%◌, ◌<◌, ◌≤◌}
use Rattle.host.specs.Pages.{size}
use Rattle.accept_memory.specs.Walks.{State, asking, refused}

pub record OnCourse (next end count status : ℕ) (s : State) : Type 0 where
  -- the level that it asks at, and the one whose reply ended it, have blocks,
  pub asked : (l : ℕ) → s ≡ asking l → l ≤ 2
  pub ended : (l : ℕ) → s ≡ refused l → l ≤ 2
  -- a walk that asks is at a multiple of its level's size,
  pub fits : (l : ℕ) → s ≡ asking l → next % size l ≡ 0
  -- with that size left to its end,
  pub room : (l : ℕ) → s ≡ asking l → next + size l ≤ end
  -- and has taken at most three replies for each page of memory below its next address, so that the count cannot overflow
  pub few : (l : ℕ) → s ≡ asking l → count + l ≤ 3 * (next / 4096) + 2
  -- zero ends no walk
  pub failed : (l : ℕ) → s ≡ refused l → 0 < status
