-- A bitmap that is a part of an image: the words from i to j - 1.
use Rattle.std.specs.Prelude.{◌≡◌, ℕ, ◌+◌, ◌*◌, ◌≤◌, min, if◌then◌else◌, ◌&&◌, List, ◌++◌, length, take, drop, nat_le}
use Rattle.std.specs.List.{between}
use Rattle.bitmap.specs.Marks.{units_written, RangeWritten}

-- the image with the words ws in the place of its words from i to j - 1
abbrev pub with_part : ℕ → ℕ → List ℕ → List ℕ → List ℕ
with_part i j img ws = take i img ++ (ws ++ drop j img)

-- What an image xs is once its words from i to j - 1 were lent and came back as ys.
pub record Lent (i j : ℕ) (xs ys after : List ℕ) : Type 0 where
  pub whole : after ≡ with_part i j xs ys
  -- the words before the part and those behind it stay, and the part is what came back
  pub front : take i after ≡ take i xs
  pub back : drop j after ≡ drop j xs
  pub middle : between i j after ≡ ys

-- the image with v written to the units from a to b - 1 of its words from i to j - 1; unchanged where it has no such words
abbrev pub part_written : ℕ → ℕ → ℕ → List ℕ → ℕ → ℕ → List ℕ
part_written v i j img a b =
    if nat_le i j && nat_le j (length img) then with_part i j img (units_written v (between i j img) a b) else img

-- The same in units of the whole image, of which the part's unit k is unit 64 * i + k.
abbrev pub PartMarks : ℕ → ℕ → ℕ → List ℕ → List ℕ → ℕ → ℕ → Type 0
PartMarks v i j us vs a b = i ≤ j → j ≤ length us → RangeWritten v us vs (64 * i + a) (min (64 * i + b) (64 * j))
