-- The 64-bit status of a TDCALL: zero is success, and the upper 32 bits of any other are its class.
use Rattle.std.specs.Prelude.{◌≡◌, ℕ, ◌*◌, ◌/◌, ◌^◌, if◌then◌else◌, ◌⊎◌, List, [], ◌∷◌, Ok, Err, codes, Result, ◌==◌}
use Rattle.tdcall.specs.declared.TdCallError.{TdCallError}
use Rattle.tdcall.specs.declared.TdCallError.TheVariants.{TdxNoValidVeInfo, TdxOperandInvalid, TdxOperandBusy, TdxPageAlreadyAccepted, TdxPageSizeMismatch, TdxMetadataFieldIdIncorrect, TdxMetadataFieldNotWritable, TdxMetadataFieldNotReadable, TdxMetadataFieldValueNotValid, TdxOpStateIncorrect, TdxOperandAddrRangeError, TdxPageMetadataIncorrect, TdxServtdInfoHashMismatch, TdxServtdNotBound, TdxServtdUuidMismatch, TdxTargetUuidMismatch, TdxTargetUuidUpdated, TdxTdFatal, TdxTdKeysNotConfigured, TdxTdcsNotAllocated, Other}

-- the number of an error is its class; Other stands for every class without a name, and has one of these
abbrev pub number : TdCallError → ℕ
number TdxPageAlreadyAccepted = 0x00000B0A
number TdxOperandBusy = 0x80000200
number TdxTdKeysNotConfigured = 0x80000810
number TdxOperandInvalid = 0xC0000100
number TdxOperandAddrRangeError = 0xC0000101
number TdxPageMetadataIncorrect = 0xC0000300
number TdxTdcsNotAllocated = 0xC0000606
number TdxOpStateIncorrect = 0xC0000608
number TdxNoValidVeInfo = 0xC0000704
number TdxPageSizeMismatch = 0xC0000B0B
number TdxMetadataFieldIdIncorrect = 0xC0000C00
number TdxMetadataFieldNotWritable = 0xC0000C01
number TdxMetadataFieldNotReadable = 0xC0000C02
number TdxMetadataFieldValueNotValid = 0xC0000C03
number TdxServtdInfoHashMismatch = 0xC0000D03
number TdxServtdUuidMismatch = 0xC0000D04
number TdxServtdNotBound = 0xC0000D05
number TdxTargetUuidMismatch = 0xC0000D07
number TdxTargetUuidUpdated = 0xC0000D08
number TdxTdFatal = 0xE0000604
number Other = 0xFFFFFFFF

-- the errors that have a class of their own
abbrev pub errors : List TdCallError
errors =
    TdxPageAlreadyAccepted ∷ TdxOperandBusy ∷ TdxTdKeysNotConfigured ∷ TdxOperandInvalid ∷ TdxOperandAddrRangeError
    ∷ TdxPageMetadataIncorrect ∷ TdxTdcsNotAllocated ∷ TdxOpStateIncorrect ∷ TdxNoValidVeInfo ∷ TdxPageSizeMismatch
    ∷ TdxMetadataFieldIdIncorrect ∷ TdxMetadataFieldNotWritable ∷ TdxMetadataFieldNotReadable ∷ TdxMetadataFieldValueNotValid
    ∷ TdxServtdInfoHashMismatch ∷ TdxServtdUuidMismatch ∷ TdxServtdNotBound ∷ TdxTargetUuidMismatch ∷ TdxTargetUuidUpdated
    ∷ TdxTdFatal ∷ []

-- the error of a list that a class names, or Other
abbrev pub among : List TdCallError → ℕ → TdCallError
among [] c = Other
among (e ∷ es) c = if c == number e then e else among es c

-- the error that a class names
abbrev pub named : ℕ → TdCallError
named = among errors

-- the class of a status
abbrev pub class_of : ℕ → ℕ
class_of s = s / 2 ^ 32

-- the status of an error, with a lower half of zero
abbrev pub status_of : TdCallError → ℕ
status_of e = number e * 2 ^ 32

-- what a whole status says
abbrev pub decoded : ℕ → Result (Unit {0}) TdCallError
decoded s = if s == 0 then Ok tt else Err (named (class_of s))

-- the status that says an answer
abbrev pub encoded : Result (Unit {0}) TdCallError → ℕ
encoded (Ok x) = 0
encoded (Err e) = status_of e

-- Each error is named by its class, so no two share one; a class that is not the error's that it names is Other's; and the
-- status of each error says that error.
pub record Named : Type 0 where
  pub back : (e : TdCallError) → named (number e) ≡ e
  pub forth : (c : ℕ) → (number (named c) ≡ c) ⊎ (named c ≡ Other)
  pub said : (e : TdCallError) → decoded (status_of e) ≡ Err e

-- the name of an error, as it is printed
abbrev pub name_of : TdCallError → List ℕ
name_of TdxNoValidVeInfo = codes "TdxNoValidVeInfo"
name_of TdxOperandInvalid = codes "TdxOperandInvalid"
name_of TdxOperandBusy = codes "TdxOperandBusy"
name_of TdxPageAlreadyAccepted = codes "TdxPageAlreadyAccepted"
name_of TdxPageSizeMismatch = codes "TdxPageSizeMismatch"
name_of TdxMetadataFieldIdIncorrect = codes "TdxMetadataFieldIdIncorrect"
name_of TdxMetadataFieldNotWritable = codes "TdxMetadataFieldNotWritable"
name_of TdxMetadataFieldNotReadable = codes "TdxMetadataFieldNotReadable"
name_of TdxMetadataFieldValueNotValid = codes "TdxMetadataFieldValueNotValid"
name_of TdxOpStateIncorrect = codes "TdxOpStateIncorrect"
name_of TdxOperandAddrRangeError = codes "TdxOperandAddrRangeError"
name_of TdxPageMetadataIncorrect = codes "TdxPageMetadataIncorrect"
name_of TdxServtdInfoHashMismatch = codes "TdxServtdInfoHashMismatch"
name_of TdxServtdNotBound = codes "TdxServtdNotBound"
name_of TdxServtdUuidMismatch = codes "TdxServtdUuidMismatch"
name_of TdxTargetUuidMismatch = codes "TdxTargetUuidMismatch"
name_of TdxTargetUuidUpdated = codes "TdxTargetUuidUpdated"
name_of TdxTdFatal = codes "TdxTdFatal"
name_of TdxTdKeysNotConfigured = codes "TdxTdKeysNotConfigured"
name_of TdxTdcsNotAllocated = codes "TdxTdcsNotAllocated"
name_of Other = codes "Other"
