use Rattle.unaccepted_memory.proofs.Histories.{history_keeps}
use Rattle.unaccepted_memory.proofs.Onward.{history_goes_on}
use Rattle.unaccepted_memory.proofs.Singles.{claims_single}
use Rattle.unaccepted_memory.proofs.history_keeps.Goals as goal

pub returns : goal.returns
returns c = record { kept = history_keeps; single = claims_single; onward = history_goes_on }
