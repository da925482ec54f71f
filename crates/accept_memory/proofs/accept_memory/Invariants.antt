use Rattle.std.proofs.Common.{◌≡◌, ℕ, ◌≤◌}
use Rattle.accept_memory.specs.Walks.{begun, bound}
use Rattle.accept_memory.proofs.Places.{Placed, left}
use Rattle.accept_memory.proofs.Outcomes.{rest}
use Rattle.accept_memory.proofs.accept_memory.Given as goal

abbrev pub invariant-loop-request : goal.invariant-loop-request
invariant-loop-request g l =
    Placed l.walk × (k : ℕ) × (left l.walk ≤ k)
    × (rest k (g.H.Host.state l.host) l.walk ≡ rest (bound l.start l.end) (g.H.Host.state l.initial.host) (begun l.start l.end))

abbrev pub decreases-loop-request : goal.decreases-loop-request
decreases-loop-request g l = left l.walk
