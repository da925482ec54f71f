-- What the definitions come to, in the words of the format.
use Rattle.std.specs.Prelude.{◌≡◌, ℕ, ◌+◌, ◌*◌, ◌^◌, ◌<◌, ◌≤◌, true, List, ◌++◌, length, take, IfSome, Some, None, Ok, Option, slice_index_or}
use Rattle.std.specs.Int.{IsPowerOfTwo, is_power_of_two}
use Rattle.efi_table.specs.declared.layout.Range.{Range}
use Rattle.efi_table.specs.Shapes.{Shape, IsHeader, units_of, unit_at, covered_end}
use Rattle.efi_table.specs.Images.{written, header_in}
use Rattle.efi_table.specs.Layouts.{range, coverage_of, size_asked, building}

-- A header that is written is read back, and one that is read is written back.
pub record RoundTrips : Type 0 where
  pub back : (s : Shape) (rest : List ℕ) → IsHeader s → header_in (written s ++ rest) ≡ Ok s
  pub forth : (img : List ℕ) (s : Shape) → header_in img ≡ Ok s → written s ≡ take 3 img

-- some address lies in unit k and in the window
pub record Touched (s : Shape) (k from to : ℕ) : Type 0 where
  pub address : ℕ
  pub after : from ≤ address
  pub before : address < to
  pub low : unit_at s k ≤ address
  pub high : address < unit_at s (k + 1)

-- unit k is one of those that an overlap tells
abbrev pub Tells : ℕ → Option (ℕ × ℕ × ℕ) → Type 0
Tells k None = ⊥
Tells k (Some t) = (t.0 ≤ k) × (k < t.1)

-- An overlap tells the units of the table that the window touches, and no others; if it tells any, then at least one.
pub record Overlaps (s : Shape) (from to : ℕ) (o : Option (ℕ × ℕ × ℕ)) : Type 0 where
  pub only : (k : ℕ) → Tells k o → (k < units_of s) × Touched s k from to
  pub all : (k : ℕ) → k < units_of s → Touched s k from to → Tells k o
  pub some : IfSome o (λ t. (t.0 < t.1) × (t.1 ≤ units_of s))

-- the range at a place of a list
abbrev pub range_at : List Range → ℕ → Range
range_at rs i = slice_index_or rs i (range 0 0)

-- a list that may be covered: 1 to 1024 ranges, and none empty
pub record Listed (rs : List Range) : Type 0 where
  pub some : 0 < length rs
  pub few : length rs ≤ 1024
  pub filled : (i : ℕ) → i < length rs → (range_at rs i).start < (range_at rs i).end

-- a range from the lowest start to the highest end
pub record Covers (rs : List Range) (r : Range) : Type 0 where
  pub each : (i : ℕ) → i < length rs → (r.start ≤ (range_at rs i).start) × ((range_at rs i).end ≤ r.end)
  pub lowest : (i : ℕ) × (i < length rs) × ((range_at rs i).start ≡ r.start)
  pub highest : (i : ℕ) × (i < length rs) × ((range_at rs i).end ≡ r.end)

-- A list of addresses has a coverage exactly if it may be covered, and then it is that range.
pub record Coverages (rs : List Range) : Type 0 where
  pub covered : ((i : ℕ) → (range_at rs i).end < 2 ^ 64) → (r : Range) → coverage_of rs ≡ Ok r → Listed rs × Covers rs r
  pub given : Listed rs → (r : Range) × (coverage_of rs ≡ Ok r)

-- What building accepts: the table covers the coverage, with no word of bitmap too many; the size that is asked for is that
-- of the smallest image which building accepts.
pub record Built (from to : ℕ) (s : Shape) : Type 0 where
  pub bytes : ℕ
  pub asked : size_asked from to ≡ Ok bytes
  pub needed : (held : ℕ) (t : Shape) → building from to held ≡ Ok t → bytes ≤ 8 * held
  pub enough : (held : ℕ) → bytes ≤ 8 * held → building from to held ≡ Ok s
  pub low : (s.base ≤ from) × (from < s.base + s.unit)
  pub high : (to ≤ covered_end s) × (covered_end s < to + 64 * s.unit)
  pub exact : bytes ≡ 24 + s.length

abbrev pub Builds : Type 0
Builds = (from to held : ℕ) (s : Shape) → building from to held ≡ Ok s → Built from to s

-- The powers of two, and they alone, have one bit set.
pub record Powers : Type 0 where
  pub only : (n : ℕ) → is_power_of_two n ≡ true → IsPowerOfTwo n
  pub all : (k : ℕ) → is_power_of_two (2 ^ k) ≡ true
