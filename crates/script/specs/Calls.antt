-- What calls answer, by what their case has set up.
use Rattle.std.specs.Prelude.{◌≡◌, ℕ, ◌-◌, ◌^◌, min, Bool, List, length, Option, Some, None, Result, Ok, Err, Vec}
use Rattle.std.specs.Global.{Global}
use Rattle.bitmap.specs.Marks.{capacity_of, gap, marked, unit_count}
use Rattle.bitmap.specs.Search.{FindsUnit, TellsUnit}
use Rattle.efi_entries.specs.Entries.{found}
use Rattle.efi_table.specs.Layouts.{building, coverage_of, range, size_asked, size_over}
use Rattle.efi_table.specs.Shapes.{Shape, covered_end}
use Rattle.fault.specs.declared.AcceptError.{AcceptError}
use Rattle.fault.specs.declared.Fault.{Fault}
use Rattle.fault.specs.declared.Layer.TheVariants.{Table}
use Rattle.tdcall.specs.Statuses.{named}
use Rattle.script.specs.declared.answer.Answer.{Answer}
use Rattle.script.specs.declared.answer.Answer.TheVariants as answer
use Rattle.script.specs.declared.case.Case.{Case}
use Rattle.script.specs.declared.line.Call.{Call}
use Rattle.script.specs.declared.line.Call.TheVariants as call

-- a refusal of the table, with no further place
abbrev pub table_fault : AcceptError → Fault
table_fault e = record { error = e; layer = Table; status = 0; level = 0; address = 0; count = 0; part = 0; unit = 0 }

abbrev pub sized : Result ℕ AcceptError → Answer
sized (Ok bytes) = answer.Bytes bytes
sized (Err e) = answer.Refused (table_fault e)

-- the check of building: a table that passes it is not built
abbrev pub build_checked : Result Shape AcceptError → Answer
build_checked (Ok h) = answer.NotNow
build_checked (Err e) = answer.Refused (table_fault e)

abbrev pub looked_up : Result Shape AcceptError → Answer
looked_up (Ok h) = answer.Found
looked_up (Err e) = answer.NotFound (table_fault e)

abbrev pub covered : Option Shape → Answer
covered (Some h) = answer.Covers (range h.base (covered_end h))
covered None = answer.NotNow

-- an answer about words, where there are any
abbrev pub on_words : (List ℕ → Answer) → Option (Vec ℕ Global) → Answer
on_words f (Some words) = f words.items
on_words f None = answer.NotNow

-- an answer about words that a fact tells, where there are any
abbrev pub OnWords : (List ℕ → Answer → Type 0) → Option (Vec ℕ Global) → Answer → Type 0
OnWords P (Some words) a = P words.items a
OnWords P None a = a ≡ answer.NotNow

-- a unit of a bitmap that has a mark, or has none
abbrev pub TellsFound : (List ℕ → ℕ → ℕ) → ℕ → ℕ → List ℕ → Answer → Type 0
TellsFound f from to words a = (k : Option ℕ) × (a ≡ answer.Unit k) × FindsUnit f words from to k

abbrev pub TellsAny : ℕ → ℕ → List ℕ → Answer → Type 0
TellsAny from to words a = (b : Bool) × (a ≡ answer.Holds b) × TellsUnit marked words from to b

-- what a call other than a walk answers in a case
abbrev pub Answers : Case → Call → Answer → Type 0
Answers c (call.Size r) a = a ≡ sized (size_asked r.start r.end)
Answers c (call.Sizes rs) a = a ≡ sized (size_over (coverage_of rs.items))
Answers c (call.Build r) a = a ≡ on_words (λ words. build_checked (building r.start r.end (length words))) c.image
Answers c (call.Find bytes) a = a ≡ on_words (λ words. looked_up (found bytes.items words)) c.image
Answers c call.Cover a = a ≡ covered c.table
Answers c (call.Walk span) a = Unit {0}
Answers c (call.FindSet r) a = OnWords (TellsFound marked r.start r.end) c.bits a
Answers c (call.FindZero r) a = OnWords (TellsFound gap r.start r.end) c.bits a
Answers c (call.HasSet r) a = OnWords (TellsAny r.start r.end) c.bits a
Answers c (call.SetRange r) a = OnWords (λ words b. b ≡ answer.Done) c.bits a
Answers c (call.ClearRange r) a = OnWords (λ words b. b ≡ answer.Done) c.bits a
Answers c call.CountMarks a = OnWords (λ words b. b ≡ answer.Number (min (unit_count words) (2 ^ 64 - 1))) c.bits a
Answers c call.Capacity a = OnWords (λ words b. b ≡ answer.Number (capacity_of words)) c.bits a
Answers c (call.Decode x) a = a ≡ answer.Name (named x)
Answers c (call.Later l) a = a ≡ answer.NotNow

-- is it a call of the bare bitmap?
abbrev pub IsOfBitmap : Call → Type 0
IsOfBitmap (call.FindSet r) = Unit {0}
IsOfBitmap (call.FindZero r) = Unit {0}
IsOfBitmap (call.HasSet r) = Unit {0}
IsOfBitmap (call.SetRange r) = Unit {0}
IsOfBitmap (call.ClearRange r) = Unit {0}
IsOfBitmap call.CountMarks = Unit {0}
IsOfBitmap call.Capacity = Unit {0}
IsOfBitmap other = ⊥
