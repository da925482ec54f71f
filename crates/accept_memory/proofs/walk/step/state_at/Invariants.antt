use Rattle.std.proofs.Common.{◌≡◌, ℕ, ◌-◌, ◌<◌, false}
use Rattle.accept_memory.specs.Walks.{fits}
use Rattle.accept_memory.proofs.walk.step.state_at.Given as goal

-- no block of a level that was tried fits
abbrev pub invariant-loop-level : goal.invariant-loop-level
invariant-loop-level l = (k : ℕ) → k < l.level-index → fits l.next l.end (2 - k) ≡ false
