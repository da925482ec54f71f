use Rattle.std.proofs.Common.{◌≡◌, take}
use Rattle.script.proofs.list.narrowed.Given as goal

abbrev pub invariant-loop-item : goal.invariant-loop-item
invariant-loop-item l = l.bytes.items ≡ take l.item-index l.list
