-- Answers by plain numbers: what was asked for, or the number of the refusal.
use Rattle.std.specs.Prelude.{ℕ, Ok, Err, Result}
use Rattle.fault.specs.declared.AcceptError.{AcceptError}
use Rattle.fault.specs.Refusals.{number}
use Rattle.efi_table.specs.Shapes.{Shape}

abbrev pub numbered : Result ℕ AcceptError → Result ℕ ℕ
numbered (Ok n) = Ok n
numbered (Err e) = Err (number e)

-- of a table, the length of its bitmap
abbrev pub length_in : Result Shape AcceptError → Result ℕ ℕ
length_in (Ok s) = Ok s.length
length_in (Err e) = Err (number e)
