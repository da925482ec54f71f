-- What a view for reading shows.
use Rattle.std.specs.Prelude.{ℕ, List}
use Rattle.bitmap.specs.declared.BitmapRef.{BitmapRef}

-- the words of a view
abbrev pub view_words : BitmapRef → List ℕ
view_words view = view.bits.now
