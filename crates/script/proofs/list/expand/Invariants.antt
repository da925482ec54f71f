use Rattle.std.proofs.Common.{◌≡◌, ◌≤◌, length, take}
use Rattle.script.specs.Lists.{expanded}
use Rattle.script.proofs.list.expand.Given as goal

abbrev pub invariant-loop-run : goal.invariant-loop-run
invariant-loop-run l = record { items : l.list.items ≡ expanded (take l.run-index l.runs); most : length l.list.items ≤ 4194304 }
