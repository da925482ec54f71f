-- When entries and an image name a table.
use Rattle.std.specs.Prelude.{◌≡◌, ℕ, ◌+◌, ◌*◌, ◌%◌, ◌^◌, ◌<◌, ◌≤◌, List, [], ◌∷◌, length, take, drop, Ok, ◌≢◌, slice_index}
use Rattle.std.specs.Int.{IsPowerOfTwo}
use Rattle.efi_table.specs.Shapes.{Shape, covered_end, bitmap_end}
use Rattle.efi_table.specs.Images.{written}
use Rattle.efi_entries.specs.Entries.{pointer_of, found}

-- the GUID of the table
abbrev pub guid : List ℕ
guid = 0x3c ∷ 0xde ∷ 0xd1 ∷ 0xd5 ∷ 0x5c ∷ 0x10 ∷ 0xf9 ∷ 0x44 ∷ 0x9e ∷ 0xa9 ∷ 0xbc ∷ 0xef ∷ 0x98 ∷ 0x12 ∷ 0x00 ∷ 0x31 ∷ []

-- the bytes from entry j on
abbrev pub entry_at : ℕ → List ℕ → List ℕ
entry_at j bs = drop (24 * j) bs

-- The entries name a table, and the image is that table's: the first entry with its GUID points to a place where a table may
-- lie, and the image holds a header of version 1 that is possible, and the whole bitmap.
pub record Table (bs img : List ℕ) (s : Shape) : Type 0 where
  pub entries : length bs % 24 ≡ 0
  pub entry : ℕ
  pub there : 24 * entry + 24 ≤ length bs
  pub match : take 16 (entry_at entry bs) ≡ guid
  pub first : (j : ℕ) → j < entry → take 16 (entry_at j bs) ≢ guid
  pub present : 0 < pointer_of (entry_at entry bs)
  pub aligned : pointer_of (entry_at entry bs) % 8 ≡ 0
  pub below : pointer_of (entry_at entry bs) + 24 < 2 ^ 64
  pub words : written s ≡ take 3 img
  pub power : IsPowerOfTwo s.unit
  pub some : 0 < s.length
  pub whole : s.length % 8 ≡ 0
  pub ends : covered_end s < 2 ^ 64
  pub held : bitmap_end s ≤ length img

abbrev pub Bytes : List ℕ → Type 0
Bytes bs = (i : ℕ) → slice_index bs i < 256

-- Finding accepts such tables only, and refuses none of them.
pub record Finds : Type 0 where
  pub sound : (bs img : List ℕ) (s : Shape) → Bytes bs → found bs img ≡ Ok s → Table bs img s
  pub complete : (bs img : List ℕ) (s : Shape) → Bytes bs → Table bs img s → found bs img ≡ Ok s
