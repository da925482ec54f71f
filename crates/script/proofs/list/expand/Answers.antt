use Rattle.std.proofs.Common.{ap, sym, Err, length, arith}
use Rattle.script.proofs.Lists.{expanded_within}
use Rattle.script.proofs.list.expand.Goals as goal

pub returns-in_err-add_times-clause-too_many : goal.returns-in_err-add_times-clause-too_many
returns-in_err-add_times-clause-too_many c = λ e.
    let same = rw e at c.from_residual.ensures.1 in
    let told = c.in_err-add_times.ensures.too_many (ap Err (sym same)) in
    omega (arith, told, ap length c.loop-run.invariant.items, expanded_within c.args.runs.now c.loop-run.run-index (record { value = 0; times = 0 }) c.loop-run-test.true)
