-- No unit of the range in the words before the next place has the mark.
use Rattle.std.proofs.Common.{◌≡◌, ◌+◌, ◌-◌, ◌*◌, ◌/◌, ◌<◌, ◌≤◌, min, length}
use Rattle.bitmap.specs.Masks.{matching}
use Rattle.bitmap.specs.Search.{Nowhere}
use Rattle.bitmap.proofs.find_next_matching.Given as goal

abbrev pub invariant-loop-w : goal.invariant-loop-w
invariant-loop-w l = record {
  start : l.units.start / 64 ≤ l.places.start;
  low : l.places.end ≤ min (length l.words) ((l.units.end + 63) / 64);
  end : l.units.start < l.units.end → l.places.end ≡ min (length l.words) ((l.units.end + 63) / 64);
  passed : Nowhere (matching l.mark l.words) l.units.start (min l.units.end (64 * l.places.start));
}

abbrev pub decreases-loop-w : goal.decreases-loop-w
decreases-loop-w l = l.places.end - l.places.start
