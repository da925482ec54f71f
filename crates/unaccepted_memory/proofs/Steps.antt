-- Each call keeps what a step has to keep.
use Rattle.efi_table.specs.Shapes.{Shape}
use Rattle.unaccepted_memory.specs.History.{Moment, Event, Step, registers, accepts, claims, settles, restores}
use Rattle.unaccepted_memory.proofs.StepLaws.{Table, Good, Stepped}
use Rattle.unaccepted_memory.proofs.Registering.{register_step}
use Rattle.unaccepted_memory.proofs.Accepting.{accept_step}
use Rattle.unaccepted_memory.proofs.Claiming.{claim_step}
use Rattle.unaccepted_memory.proofs.Settling.{settle_step}
use Rattle.unaccepted_memory.proofs.Restoring.{restore_step}

pub stepped : (h : Shape) → Table h → (m : Moment) (e : Event) (n : Moment) → Good h m → Step h m e n → Stepped h m e n
stepped h table m e n good (registers d) = register_step h table m e n good d
stepped h table m e n good (accepts d) = accept_step h table m e n good d
stepped h table m e n good (claims d) = claim_step h table m e n good d
stepped h table m e n good (settles d) = settle_step h table m e n good d
stepped h table m e n good (restores d) = restore_step h table m e n good d
