use Rattle.std.proofs.Common.{nat_eq, rules}
use Rattle.std.proofs.lemmas.Fn.{always_returns_same}
use Rattle.script.proofs.Lists.{runs_before_none, runs_before_more, runs_whole}
use Rattle.script.proofs.list.runs_of.Goals as goal

-- the chunk is the next run
pub loop-run-preserved : goal.loop-run-preserved
loop-run-preserved c =
    let steps = c.in-Some.ensures.steps in
    let alike = steps.2 (λ x y. nat_eq x y) (always_returns_same _ _ _ (λ a r f' k. (search rules, search rules))) in
    rw c.in_ok-push.ensures.items (runs_before_more _ _ _ steps.0 steps.1 alike.1 _ _ c.loop-run.invariant)

-- no chunk is left
pub returns : goal.returns
returns c = runs_whole c.loop-run.invariant c.in-None.ensures.steps.0

-- no run yet, and the whole list is left
pub loop-run-init : goal.loop-run-init
loop-run-init c = rw (c.new-runs.ensures.items, c.into_iter-run-iterator.ensures.into_iter_gives) (runs_before_none _ _ c.chunk_by-run-items.ensures.rest)
