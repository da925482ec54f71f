-- The words before the next place are updated.
use Rattle.std.proofs.Common.{◌≡◌, ◌+◌, ◌/◌, ◌<◌, ◌≤◌, min, length}
use Rattle.bitmap.proofs.MaskLaws.{Updated}
use Rattle.bitmap.proofs.update_range.Given as goal

abbrev pub invariant-loop-w : goal.invariant-loop-w
invariant-loop-w l = record {
  start : l.units.start / 64 ≤ l.w-iterator.start;
  low : l.w-iterator.end ≤ min (length l.initial.words) ((l.units.end + 63) / 64);
  end : l.units.start < l.units.end → l.w-iterator.end ≡ min (length l.initial.words) ((l.units.end + 63) / 64);
  updated : Updated l.mark l.initial.words l.words l.units.start l.units.end l.w-iterator.start;
}
