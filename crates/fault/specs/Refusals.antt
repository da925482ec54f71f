-- The numbers of refusal, and a fault told by plain numbers.
use Rattle.std.specs.Prelude.{◌≡◌, ℕ, ◌-◌, ◌^◌, false, List, [], ◌++◌, Ok, Err, Result, codes}
use Rattle.std.specs.Fmt.{decimal, digits, format_spec, padded_integral}
use Rattle.tdcall.specs.Statuses as tdcall
use Rattle.fault.specs.declared.AcceptError.{AcceptError}
use Rattle.fault.specs.declared.AcceptError.TheVariants.{InvalidAlignment, OutOfBounds, Overlap, ArithmeticOverflow, TdCall, WrongImage, BadEntries, NoTable, BadVersion, BadUnit, BadBitmap, BadCoverage, BadHost}
use Rattle.fault.specs.declared.Layer.{Layer}
use Rattle.fault.specs.declared.Layer.TheVariants.{Host, Walk, Table}
use Rattle.fault.specs.declared.Fault.{Fault}

-- the number of a refusal
abbrev pub number : AcceptError → ℕ
number InvalidAlignment = 1
number OutOfBounds = 2
number Overlap = 3
number ArithmeticOverflow = 4
number (TdCall e) = 5
number WrongImage = 6
number BadEntries = 7
number NoTable = 8
number BadVersion = 9
number BadUnit = 10
number BadBitmap = 11
number BadCoverage = 12
number BadHost = 13

-- the name of a refusal, as it is printed
abbrev pub name_of : AcceptError → List ℕ
name_of InvalidAlignment = codes "InvalidAlignment"
name_of OutOfBounds = codes "OutOfBounds"
name_of Overlap = codes "Overlap"
name_of ArithmeticOverflow = codes "ArithmeticOverflow"
name_of (TdCall e) = tdcall.name_of e
name_of WrongImage = codes "WrongImage"
name_of BadEntries = codes "BadEntries"
name_of NoTable = codes "NoTable"
name_of BadVersion = codes "BadVersion"
name_of BadUnit = codes "BadUnit"
name_of BadBitmap = codes "BadBitmap"
name_of BadCoverage = codes "BadCoverage"
name_of BadHost = codes "BadHost"

-- the class of the TDCALL error that a refusal carries, 0 where it carries none
abbrev pub reason_of : AcceptError → ℕ
reason_of (TdCall e) = tdcall.number e
reason_of other = 0

-- the layers, from the lowest
abbrev pub layer_number : Layer → ℕ
layer_number Host = 1
layer_number Walk = 2
layer_number Table = 3

-- the name of a layer, as it is printed
abbrev pub layer_name : Layer → List ℕ
layer_name Host = codes "host"
layer_name Walk = codes "walk"
layer_name Table = codes "table"

-- a fault by plain numbers; a place that does not apply is 0
pub record Told : Type 0 where
  pub refusal : ℕ
  pub reason : ℕ
  pub layer : ℕ
  pub status : ℕ
  pub level : ℕ
  pub address : ℕ
  pub count : ℕ
  pub part : ℕ
  pub unit : ℕ

abbrev pub told : Fault → Told
told f = record {
  refusal = number f.error;
  reason = reason_of f.error;
  layer = layer_number f.layer;
  status = f.status;
  level = f.level;
  address = f.address;
  count = f.count;
  part = f.part;
  unit = f.unit;
}

-- an answer that may be a fault, by plain numbers
abbrev pub told_by : {A : Type 0} → Result A Fault → Result A Told
told_by (Ok x) = Ok x
told_by (Err f) = Err (told f)

-- Nothing is lost: faults that are told alike are equal.
abbrev pub ToldWhole : Type 0
ToldWhole = (f g : Fault) → told f ≡ told g → f ≡ g

-- the hexadecimal digits of a number, with zeros in front up to a width
abbrev pub hexadecimal : ℕ → ℕ → List ℕ
hexadecimal width n = padded_integral (format_spec 32 0 4 width (2 ^ 64 - 1)) false [] (digits 16 false n)

-- a fault as it is printed, with every place, on three lines
abbrev pub refusal_line : Fault → List ℕ
refusal_line f = codes "refused by " ++ decimal (number f.error) ++ codes ", " ++ name_of f.error ++ codes "\n"

abbrev pub request_line : Fault → List ℕ
request_line f =
    (codes "  layer " ++ layer_name f.layer ++ codes ", status 0x" ++ hexadecimal 16 f.status)
    ++ (codes ", level " ++ decimal f.level ++ codes ", address 0x" ++ hexadecimal 10 f.address ++ codes "\n")

abbrev pub counts_line : Fault → List ℕ
counts_line f = codes "  count " ++ decimal f.count ++ codes ", part " ++ decimal f.part ++ codes ", unit " ++ decimal f.unit

abbrev pub text_of : Fault → List ℕ
text_of f = refusal_line f ++ request_line f ++ counts_line f
