use Rattle.std.proofs.Common.{◌≡◌, drop}
use Rattle.accept_memory.specs.Promises.{stepped_end}
use Rattle.accept_memory.proofs.walk.Walk.replay.Given as goal

abbrev pub invariant-loop-status : goal.invariant-loop-status
invariant-loop-status l = stepped_end l.self (drop l.status-index l.statuses) ≡ stepped_end l.initial.self l.statuses
