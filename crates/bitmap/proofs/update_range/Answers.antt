-- One word more is updated, and at the end all are.
use Rattle.std.proofs.Common.{◌≡◌, ◌/◌, inl, inr, ap, ◌∙◌, arith}
use Rattle.std.proofs.lemmas.Bool.{cases_lt}
use Rattle.bitmap.specs.Masks.{put}
use Rattle.bitmap.proofs.MarkLaws.{range_written}
use Rattle.bitmap.proofs.MaskLaws.{as_bit_lt, updated_none, updated_more, updated_all}
use Rattle.bitmap.proofs.update_range.Goals as goal

pub loop-w-init : goal.loop-w-init
loop-w-init c =
    let same = c.into_iter-w-iterator.ensures.into_iter_gives in
    let start : c.into_iter-w-iterator.result.start ≡ c.args.units.start / 64 = ap (λ r. r.start) same ∙ c.words-w-items.ensures.start in
    record {
      start = omega (arith, start);
      low = omega (arith, ap (λ r. r.end) same, c.words-w-items.ensures.low);
      end = λ h. ap (λ r. r.end) same ∙ c.words-w-items.ensures.end h;
      updated = updated_none _ _ _ _ _ (λ k. omega (arith, c.type_inv.words k)) (omega (arith, start));
    }

pub loop-w-preserved : goal.loop-w-preserved
loop-w-preserved c =
    let steps = c.in-Some.ensures.steps in
    let here : c.in-Some.w ≡ c.loop-w.w-iterator.start = steps.1.1 in
    let word = c.put-word.ensures ∙ ap (put c.args.mark _) c.share.ensures in
    record {
      start = omega arith;
      low = omega (arith, steps.0, c.loop-w.invariant.low);
      end = λ h. steps.0 ∙ c.loop-w.invariant.end h;
      updated = updated_more _ _ _ _ _ _ _ _ _ (omega arith) c.store_word.ensures word (omega arith) (rw (← here) at c.loop-w.invariant.updated);
    }

pub returns-clause-after : goal.returns-clause-after
returns-clause-after c =
    let steps = c.in-None.ensures.steps in
    updated_all _ _ _ _ _ _ (omega arith) (λ k l h. elim (cases_lt c.args.units.start c.args.units.end) [
      | inl s ↦ omega (arith, c.loop-w.invariant.end s)
      | inr s ↦ omega arith
    ])
    c.loop-w.invariant.updated

pub returns-clause-marks : goal.returns-clause-marks
returns-clause-marks c = range_written _ (as_bit_lt c.args.mark) _ _ _ _ (returns-clause-after c)
