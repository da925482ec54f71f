-- The bitmap in the table's image.
use Rattle.std.proofs.Common.{◌≡◌, ℕ, ◌*◌, ◌/◌, ◌%◌, ◌<◌, ◌≤◌, true, List, ◌++◌, length, get_or, take, drop, sym, ap, ◌∙◌, arith, length-append, length-drop, length-take}
use Rattle.std.proofs.lemmas.List.Edits.{length-between}
use Rattle.std.proofs.lemmas.List.{get_or-take}
use Rattle.std.proofs.lemmas.Bool.{and_parts, and_from, le-leb, leb-true, eqb-true, eq-eqb, cond-true}
use Rattle.bitmap.specs.Parts.{with_part, Lent}
use Rattle.bitmap.proofs.PartLaws.{lent}
use Rattle.efi_table.specs.Shapes.{Shape, units_of, bitmap_end}
use Rattle.efi_table.specs.Images.{is_image, first_word}
use Rattle.unaccepted_memory.specs.Plans.{Outcome}
use Rattle.unaccepted_memory.specs.Calls.{bitmap_of, in_image, on_image}

-- what the image of a table has: three words of header, and room for the bitmap
pub record Own (h : Shape) (img : List ℕ) : Type 0 where
  pub three : 3 ≤ length img
  pub word_0 : get_or img 0 0 ≡ first_word h.unit
  pub word_1 : get_or img 1 0 ≡ h.base
  pub word_2 : get_or img 2 0 ≡ h.length
  pub room : bitmap_end h ≤ length img

pub owned : (h : Shape) (img : List ℕ) → is_image h img ≡ true → Own h img
owned h img own =
    let d = and_parts _ _ own in
    let c = and_parts _ _ d.0 in
    let b = and_parts _ _ c.0 in
    let a = and_parts _ _ b.0 in
    record {
      three = leb-true _ _ a.0;
      word_0 = eqb-true _ _ a.1;
      word_1 = eqb-true _ _ b.1;
      word_2 = eqb-true _ _ c.1;
      room = leb-true _ _ d.1;
    }

pub is_image_lem : (h : Shape) (img : List ℕ) → Own h img → is_image h img ≡ true
is_image_lem h img o =
    and_from _ _ (and_from _ _ (and_from _ _ (and_from _ _ (le-leb _ _ o.three) (eq-eqb _ _ o.word_0)) (eq-eqb _ _ o.word_1)) (eq-eqb _ _ o.word_2)) (le-leb _ _ o.room)

-- the bitmap has one bit for each unit
pub bitmap_long : (h : Shape) (img : List ℕ) → is_image h img ≡ true → length (bitmap_of h img) ≡ h.length / 8
bitmap_long h img own = length-between img 3 (bitmap_end h) (owned h img own).room ∙ omega arith

pub bitmap_units : (h : Shape) (img : List ℕ) → is_image h img ≡ true → h.length % 8 ≡ 0 → 64 * length (bitmap_of h img) ≡ units_of h
bitmap_units h img own whole = let l = bitmap_long h img own in omega arith

-- an image with other words for its bitmap
module _ (h : Shape) (img ws : List ℕ) (own : is_image h img ≡ true) (long : length ws ≡ length (bitmap_of h img)) where
  abbrev after : List ℕ
  after = with_part 3 (bitmap_end h) img ws

  is_lent : Lent 3 (bitmap_end h) img ws after
  is_lent = let l = lent 3 (bitmap_end h) img ws (omega arith) (owned h img own).room long in rw l.whole at l

  pub bitmap_after : bitmap_of h after ≡ ws
  bitmap_after = is_lent.middle

  pub header_after : take 3 after ≡ take 3 img
  header_after = is_lent.front

  pub behind_after : drop (bitmap_end h) after ≡ drop (bitmap_end h) img
  behind_after = is_lent.back

  long_after : length after ≡ length img
  long_after =
      let o = owned h img own in
      let three = o.three in
      let room = o.room in
      omega (
        arith,
        length-append (take 3 img) (ws ++ drop (bitmap_end h) img),
        length-append ws (drop (bitmap_end h) img),
        length-take 3 img,
        length-drop (bitmap_end h) img,
        bitmap_long h img own,
      )

  word_after : (i : ℕ) → i < 3 → get_or after i 0 ≡ get_or img i 0
  word_after i l = sym (get_or-take 3 after i 0 l) ∙ ap (λ (xs : List ℕ). get_or xs i 0) header_after ∙ get_or-take 3 img i 0 l

  pub own_after : is_image h after ≡ true
  own_after =
      let o = owned h img own in
      is_image_lem h after (record {
        three = omega (arith, long_after, o.three);
        word_0 = word_after 0 (omega arith) ∙ o.word_0;
        word_1 = word_after 1 (omega arith) ∙ o.word_1;
        word_2 = word_after 2 (omega arith) ∙ o.word_2;
        room = omega (arith, long_after, o.room);
      })

-- a call on the table's image works on the bitmap
pub on_own : {A : Type 0} (h : Shape) (img : List ℕ) (f : List ℕ → Outcome A) → is_image h img ≡ true → on_image h img f ≡ in_image h img (f (bitmap_of h img))
on_own h img f own = cond-true _ _ _ own
