-- What calls answer, as it is printed.
use Rattle.std.specs.Prelude.{ℕ, true, false, List, ◌++◌, codes, Option, Some, None}
use Rattle.std.specs.Fmt.{decimal}
use Rattle.fault.specs.declared.AcceptError.{AcceptError}
use Rattle.fault.specs.declared.AcceptError.TheVariants.{TdCall}
use Rattle.fault.specs.declared.Fault.{Fault}
use Rattle.fault.specs.Refusals as fault
use Rattle.tdcall.specs.Statuses as tdcall
use Rattle.script.specs.declared.answer.Answer.{Answer}
use Rattle.script.specs.declared.answer.Answer.TheVariants as answer
use Rattle.script.specs.Numbers.{hexadecimal}

-- a refusal by its number, and by the error's name where a reply is the reason
abbrev pub refusal_text : AcceptError → List ℕ
refusal_text (TdCall e) = codes "5 " ++ tdcall.name_of e
refusal_text other = decimal (fault.number other)

abbrev pub answer_text : Answer → List ℕ
answer_text answer.Done = codes "ok"
answer_text (answer.Bytes n) = codes "ok " ++ decimal n
answer_text answer.Found = codes "found"
answer_text (answer.Covers r) = hexadecimal r.start ++ (codes " " ++ hexadecimal r.end)
answer_text (answer.Unit None) = codes "none"
answer_text (answer.Unit (Some k)) = codes "some " ++ hexadecimal k
answer_text (answer.Holds true) = codes "true"
answer_text (answer.Holds false) = codes "false"
answer_text (answer.Number n) = decimal n
answer_text (answer.Name e) = tdcall.name_of e
answer_text answer.NotNow = codes "not now"
answer_text (answer.Refused f) = codes "err " ++ refusal_text f.error
answer_text (answer.NotFound f) = codes "refuse " ++ decimal (fault.number f.error)

-- all places of a fault, on one line
abbrev pub places_text : Fault → List ℕ
places_text f =
    codes "  ! " ++ (decimal (fault.number f.error) ++ (codes " layer=" ++ (fault.layer_name f.layer
    ++ (codes " status=" ++ (hexadecimal f.status ++ (codes " level=" ++ (decimal f.level
    ++ (codes " address=" ++ (hexadecimal f.address ++ (codes " count=" ++ (decimal f.count
    ++ (codes " part=" ++ (decimal f.part ++ (codes " unit=" ++ decimal f.unit))))))))))))))

-- the fault of a refusal
abbrev pub fault_of : Answer → Option Fault
fault_of (answer.Refused f) = Some f
fault_of (answer.NotFound f) = Some f
fault_of other = None
