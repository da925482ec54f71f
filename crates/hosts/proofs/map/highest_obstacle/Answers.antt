use Rattle.std.proofs.Common.{◌≡◌, length, get_or, ap, ◌∙◌, arith}
use Rattle.host.specs.Levels.{level_number}
use Rattle.hosts.specs.MapPages.{rank, weight}
use Rattle.hosts.proofs.Obstacles.{highest_low, highest_more, highest_none}
use Rattle.hosts.proofs.map.highest_obstacle.Goals as goal

pub loop-byte-preserved : goal.loop-byte-preserved
loop-byte-preserved c =
    let l = level_number c.args.level in
    let L = c.args.bytes.now in
    let i = c.loop-byte.byte-index in
    let more = highest_more i (length L) l L (omega arith) in
    let here : c.rank.result ≡ weight l (get_or L i 0) = c.rank.ensures ∙ ap rank c.obstacle_at.ensures in
    omega (arith, more, here, c.max-most.ensures, c.loop-byte.invariant)

pub returns : goal.returns
returns c =
    let l = level_number c.args.level in
    let L = c.args.bytes.now in
    omega (arith, c.ranked.ensures, highest_low l L 0 (length L), highest_none c.loop-byte.byte-index (length L) l L (omega arith), c.loop-byte.invariant)
