use Rattle.script.proofs.Lists.{RunsBefore}
use Rattle.script.proofs.list.runs_of.Given as goal

abbrev pub invariant-loop-run : goal.invariant-loop-run
invariant-loop-run l = RunsBefore l.list l.runs.items l.run-iterator.rest.now
