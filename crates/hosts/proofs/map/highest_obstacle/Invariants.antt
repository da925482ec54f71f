use Rattle.std.proofs.Common.{◌≡◌, ◌-◌, max, length}
use Rattle.host.specs.Levels.{level_number}
use Rattle.hosts.specs.MapPages.{highest}
use Rattle.hosts.proofs.map.highest_obstacle.Given as goal

-- the highest so far and of the bytes left is that of all
abbrev pub invariant-loop-byte : goal.invariant-loop-byte
invariant-loop-byte l =
    max l.most (highest (level_number l.level) l.bytes l.byte-index (length l.bytes - l.byte-index))
    ≡ highest (level_number l.level) l.bytes 0 (length l.bytes)
