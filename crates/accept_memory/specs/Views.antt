-- Answers and requests of the code as the definitions have them.
use Rattle.std.specs.Prelude.{ℕ, Some, None, Option, Result}
use Rattle.fault.specs.declared.Fault.{Fault}
use Rattle.fault.specs.Refusals.{Told, told_by}
use Rattle.host.specs.Pages.{Request, accepting}
use Rattle.host.specs.Levels.{level_number}
use Rattle.accept_memory.specs.declared.walk.step.PageRequest.{PageRequest}

-- an answer that there may be, by plain numbers
abbrev pub told_if : Option (Result ℕ Fault) → Option (Result ℕ Told)
told_if None = None
told_if (Some r) = Some (told_by r)

abbrev pub as_request : Option PageRequest → Option Request
as_request None = None
as_request (Some q) = Some (accepting (level_number q.level) q.address)
