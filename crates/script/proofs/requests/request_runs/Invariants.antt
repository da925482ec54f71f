use Rattle.std.proofs.Common.{◌≡◌, ◌++◌}
use Rattle.script.specs.Requests.{asked, blocks_in}
use Rattle.script.proofs.requests.request_runs.Given as goal

abbrev pub invariant-loop-run : goal.invariant-loop-run
invariant-loop-run l = asked l.runs.items ++ blocks_in l.run-iterator.rest.now ≡ blocks_in l.exchanges
