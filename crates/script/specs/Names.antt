-- Fixed texts: the names of calls and of a host's parts, and the reasons why a line cannot be read.
use Rattle.std.specs.Prelude.{ℕ, List, codes}
use Rattle.script.specs.declared.layers.Part.{Part}
use Rattle.script.specs.declared.layers.Part.TheVariants as part
use Rattle.script.specs.declared.line.Call.{Call}
use Rattle.script.specs.declared.line.Call.TheVariants as call
use Rattle.script.specs.declared.line.Later.{Later}
use Rattle.script.specs.declared.line.Later.TheVariants as later
use Rattle.script.specs.declared.line.LineError.{LineError}
use Rattle.script.specs.declared.line.LineError.TheVariants as error
use Rattle.script.specs.declared.number.NumberError.{NumberError}
use Rattle.script.specs.declared.number.NumberError.TheVariants as number

abbrev pub part_name : Part → List ℕ
part_name part.Map = codes "map"
part_name part.Inject = codes "inject"
part_name part.Retry = codes "retry"
part_name part.Cap = codes "cap"

abbrev pub later_name : Later → List ℕ
later_name later.Register = codes "reg"
later_name later.Done = codes "done"
later_name later.New = codes "new"
later_name later.Accept = codes "accept"
later_name later.Claim = codes "claim"
later_name later.Settle = codes "settle"
later_name later.Restore = codes "restore"
later_name later.Count = codes "count"
later_name later.Pending = codes "pending"
later_name later.Accepted = codes "accepted"

abbrev pub call_name : Call → List ℕ
call_name (call.Size r) = codes "size"
call_name (call.Sizes rs) = codes "sizes"
call_name (call.Build r) = codes "build"
call_name (call.Find bytes) = codes "find"
call_name call.Cover = codes "cover"
call_name (call.Walk r) = codes "walk"
call_name (call.FindSet r) = codes "fset"
call_name (call.FindZero r) = codes "fzero"
call_name (call.HasSet r) = codes "bany"
call_name (call.SetRange r) = codes "bset"
call_name (call.ClearRange r) = codes "bclear"
call_name call.CountMarks = codes "bcount"
call_name call.Capacity = codes "bcap"
call_name (call.Decode x) = codes "decode"
call_name (call.Later l) = later_name l

abbrev pub number_reason : NumberError → List ℕ
number_reason number.NoNumber = codes "no number"
number_reason number.TooLarge = codes "a number of 2^64 or more"

abbrev pub reason : LineError → List ℕ
reason error.NotText = codes "no UTF-8 text"
reason error.UnknownWord = codes "an unknown first word"
reason error.TooFewWords = codes "too few words"
reason error.TooManyWords = codes "too many words"
reason (error.Number e) = number_reason e
reason error.NoByte = codes "a page's byte above 255"
reason error.TooManyItems = codes "a list of more than 4194304 items"
reason error.NoHexBytes = codes "no pairs of hexadecimal digits"
reason error.OutsideCase = codes "outside a case"
reason error.WithinCase = codes "the case before has no end"
reason error.NoEnd = codes "the last case has no end"
reason error.Again = codes "the case has one already"
reason error.NoMap = codes "no map below the layer"
reason error.LayerOrder = codes "not in the order inject, retry, cap"
reason error.NoMemory = codes "no memory for it"
