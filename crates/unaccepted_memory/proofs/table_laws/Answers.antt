use Rattle.unaccepted_memory.proofs.RunLaws.{runs_told}
use Rattle.unaccepted_memory.proofs.StartLaws.{built_told, found_told}
use Rattle.unaccepted_memory.proofs.table_laws.Goals as goal

pub returns : goal.returns
returns c = record { runs = runs_told; built = built_told; found = found_told }
