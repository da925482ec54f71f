-- The entries of UEFI's configuration table: 24 bytes each, sixteen of a GUID and then eight of a pointer.
use Rattle.std.specs.Prelude.{ℕ, zero, suc, ◌+◌, ◌*◌, ◌/◌, ◌%◌, ◌^◌, Bool, if◌then◌else◌, not, ◌&&◌, List, [], ◌∷◌, length, drop, Some, None, Ok, Err, Option, Result, ◌==◌, nat_lt, slice_index}
use Rattle.std.specs.List.{find}
use Rattle.std.specs.Option.{option_map}
use Rattle.efi_entries.specs.declared.Entry.{Entry}
use Rattle.fault.specs.declared.AcceptError.{AcceptError}
use Rattle.fault.specs.declared.AcceptError.TheVariants.{WrongImage, BadEntries, NoTable}
use Rattle.efi_table.specs.Shapes.{Shape, bitmap_end}
use Rattle.efi_table.specs.Images.{decoded_from}

-- the little-endian number of n bytes of a list, from byte i on
abbrev pub little_endian : ℕ → ℕ → List ℕ → ℕ
little_endian zero i bs = 0
little_endian (suc n) i bs = slice_index bs i + 256 * little_endian n (suc i) bs

-- the GUID of the table, 3c de d1 d5 5c 10 f9 44 9e a9 bc ef 98 12 00 31, as such a number
abbrev pub table_guid : ℕ
table_guid = 0x31001298efbca99e44f9105cd5d1de3c

abbrev pub guid_of : List ℕ → ℕ
guid_of bs = little_endian 16 0 bs

abbrev pub pointer_of : List ℕ → ℕ
pointer_of bs = little_endian 8 16 bs

-- n entries that bytes begin with, and all the entries that they hold
abbrev pub entries_of : ℕ → List ℕ → List Entry
entries_of zero bs = []
entries_of (suc n) bs = record { guid = guid_of bs; pointer = pointer_of bs } ∷ entries_of n (drop 24 bs)

unfoldable pub entries : List ℕ → List Entry
entries bs = entries_of (length bs / 24) bs

-- the first entry whose GUID is the table's, and its pointer
abbrev pub table_entry : List ℕ → Option Entry
table_entry bs = find (λ e. e.guid == table_guid) (entries bs)

abbrev pub first_pointer : List ℕ → Option ℕ
first_pointer bs = option_map (λ (e : Entry). e.pointer) (table_entry bs)

-- null is no table
abbrev pub pointing : Option ℕ → Result ℕ AcceptError
pointing None = Err NoTable
pointing (Some p) = if p == 0 then Err NoTable else Ok p

abbrev pub pointer_in : List ℕ → Result ℕ AcceptError
pointer_in bs = if not (length bs % 24 == 0) then Err BadEntries else pointing (first_pointer bs)

-- may a table lie at a pointer: the bitmap behind its header begins below 2 ^ 64, at a multiple of 8
abbrev pub may_lie : ℕ → Bool
may_lie p = p % 8 == 0 && nat_lt (p + 24) (2 ^ 64)

-- a table whose bitmap the image holds
abbrev pub whole : List ℕ → Result Shape AcceptError → Result Shape AcceptError
whole img (Ok s) = if nat_lt (length img) (bitmap_end s) then Err WrongImage else Ok s
whole img (Err e) = Err e

abbrev pub table_at : List ℕ → Result ℕ AcceptError → Result Shape AcceptError
table_at img (Ok p) = whole img (decoded_from (may_lie p) img)
table_at img (Err e) = Err e

-- the table that the entries name, in the image at its pointer
abbrev pub found : List ℕ → List ℕ → Result Shape AcceptError
found bs img = table_at img (pointer_in bs)
