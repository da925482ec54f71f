-- The bytes of a block in a map.
use Rattle.std.specs.declared.ops.Range.{Range}
use Rattle.std.specs.Prelude.{ℕ, ◌+◌, ◌-◌, min, if◌then◌else◌, ◌&&◌, Some, None, Option, nat_le}

-- the first byte and the byte behind the last, of n pages from page p on in a map of c pages from page f on that holds m bytes;
-- none if one of the pages is outside
abbrev pub block_bytes : ℕ → ℕ → ℕ → ℕ → ℕ → Option (Range ℕ)
block_bytes f c m p n = if nat_le f p && nat_le (p - f + n) (min c m) then Some (record { start = p - f; end = p - f + n }) else None
