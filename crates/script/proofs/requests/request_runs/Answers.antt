use Rattle.std.proofs.Common.{rules}
use Rattle.std.proofs.lemmas.Fn.{always_returns_same}
use Rattle.script.proofs.RequestRuns.{asked_more}
use Rattle.script.specs.Requests.{goes_on}
use Rattle.script.proofs.requests.request_runs.Goals as goal

-- the chunk is the next run
pub loop-run-preserved : goal.loop-run-preserved
loop-run-preserved c =
    let steps = c.in-Some.ensures.steps in
    let alike = steps.2 (λ x y. goes_on x.block y.block) (always_returns_same _ _ _ (λ a r f' k. (search rules, search rules))) in
    rw c.in_ok-push.ensures.items (asked_more _ _ _ _ (record { block = record { level = 0; address = 0 }; status = 0 }) c.loop-run.runs.items steps.0 steps.1 alike.1 c.loop-run.invariant)
