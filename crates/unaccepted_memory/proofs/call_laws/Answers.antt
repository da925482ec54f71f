use Rattle.unaccepted_memory.proofs.CallLaws.{refusals_told, wrong_told}
use Rattle.unaccepted_memory.proofs.ClearLaws.{cleared_only, stuck_told}
use Rattle.unaccepted_memory.proofs.RegisterLaws.{register_told}
use Rattle.unaccepted_memory.proofs.WindowLaws.{accept_none, claim_told, register_empty}
use Rattle.unaccepted_memory.proofs.call_laws.Goals as goal

pub returns : goal.returns
returns c = record {
  cleared = cleared_only;
  stuck = stuck_told;
  refusals = refusals_told;
  wrong = wrong_told;
  nothing = accept_none;
  claim = claim_told;
  empty = register_empty;
  register = register_told;
}
