-- The lowest hit is the first unit.
use Rattle.std.proofs.Common.{ap₂, arith}
use lib.Bits.{bit_and}
use Rattle.bitmap.proofs.MaskLaws.{found_in_word}
use Rattle.bitmap.proofs.find_next_matching.Goals as goal

pub returns : goal.returns
returns c =
    let steps = c.in_ok-w.ensures.steps in
    found_in_word _ _ _ _ c.in_ok-w.w _ (omega (arith, c.type_inv.words c.in_ok-w.w)) (ap₂ bit_and c.bits_of.ensures c.share.ensures)
    _ c.lowest_unit.ensures (omega arith) (omega arith) (omega arith) (λ j p q. c.loop-w.invariant.passed j p (omega arith))
