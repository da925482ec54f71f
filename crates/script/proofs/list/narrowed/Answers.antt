use Rattle.std.proofs.Common.{◌<◌, get_or, arith, refl, inl}
use Rattle.std.proofs.lemmas.Grind.{get_or_default_zero}
use Rattle.script.proofs.list.narrowed.Goals as goal

-- the item that is no byte
pub returns-in_default-clause-err : goal.returns-in_default-clause-err
returns-in_default-clause-err c =
    let above : 255 < get_or c.args.list.now c.loop-item.item-index 0 = omega (arith, c.in_default.ensures) in
    inl (refl, (c.loop-item.item-index, _, c.loop-item-test.true, get_or_default_zero _ _ _ c.loop-item-test.true, above))
