-- The state of a walk of the code, by the number of its level, and back.
use Rattle.std.specs.Prelude.{◌≡◌, ℕ, zero, suc, refl}
use Rattle.host.specs.declared.page_level.PageLevel.{PageLevel}
use Rattle.host.specs.declared.page_level.PageLevel.TheVariants.{L1_4K, L2_2M, L3_1G}
use Rattle.host.specs.Levels.{level_number}
use Rattle.accept_memory.specs.declared.walk.WalkState.{WalkState}
use Rattle.accept_memory.specs.declared.walk.WalkState.TheVariants.{Asking, Finished, Misaligned, Refused}
use Rattle.accept_memory.specs.Walks.{State, asking, finished, misaligned, refused}

abbrev pub state_of : WalkState → State
state_of (Asking l) = asking (level_number l)
state_of Finished = finished
state_of Misaligned = misaligned
state_of (Refused l) = refused (level_number l)

-- the level of a number from 0 to 2
abbrev pub level_at : ℕ → PageLevel
level_at zero = L1_4K
level_at (suc zero) = L2_2M
level_at (suc (suc n)) = L3_1G

abbrev pub walk_state : State → WalkState
walk_state (asking l) = Asking (level_at l)
walk_state finished = Finished
walk_state misaligned = Misaligned
walk_state (refused l) = Refused (level_at l)

-- the state by its number gives the state back
pub state_back : (s : WalkState) → walk_state (state_of s) ≡ s
state_back (Asking L1_4K) = refl
state_back (Asking L2_2M) = refl
state_back (Asking L3_1G) = refl
state_back Finished = refl
state_back Misaligned = refl
state_back (Refused L1_4K) = refl
state_back (Refused L2_2M) = refl
state_back (Refused L3_1G) = refl
