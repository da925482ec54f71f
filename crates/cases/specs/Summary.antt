-- An answer with its fault in short.
use Rattle.std.specs.Prelude.{ℕ, Ok, Err, Result}
use Rattle.fault.specs.Refusals.{Told}
use Rattle.cases.specs.declared.Refusal.{Refusal}

-- the number of the refusal, the count, and the address of the fault
abbrev pub refusal_of : Told → Refusal
refusal_of t = record { number = t.refusal; count = t.count; address = t.address }

abbrev pub summary_of : Result ℕ Told → Result ℕ Refusal
summary_of (Ok n) = Ok n
summary_of (Err t) = Err (refusal_of t)
