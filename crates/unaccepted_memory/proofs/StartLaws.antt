-- Tables that are built and tables that are found.
use Rattle.std.proofs.Common.{◌≡◌, ℕ, ◌+◌, ◌-◌, ◌*◌, ◌%◌, ◌^◌, ◌<◌, ◌≤◌, Bool, true, false, cond, not, ◌||◌, eqb, ltb, leb, List, length, get_or, Ok, Err, Result, refl, subst, arith}
use Rattle.std.specs.Int.{is_power_of_two}
use native.Mathlib.Nat.{mul-mod_right}
use Rattle.std.proofs.lemmas.Bool.{not-false, or_parts, eqb-true, ltb-false}
use Rattle.fault.specs.declared.AcceptError.{AcceptError}
use Rattle.fault.specs.declared.AcceptError.TheVariants.{OutOfBounds, ArithmeticOverflow, WrongImage, BadVersion, BadUnit, BadBitmap, BadCoverage}
use Rattle.efi_table.specs.Shapes.{Shape, shape, covered_end, bitmap_end}
use Rattle.efi_table.specs.Images.{version_in, unit_in, bad_length, decoded_from}
use Rattle.efi_table.specs.Layouts.{built_shape, words_for}
use Rattle.efi_entries.specs.Entries.{may_lie, pointer_in, whole, table_at}
use Rattle.efi_table.proofs.Powers.{power_positive}
use Rattle.unaccepted_memory.specs.CallLaws.{BuiltTold, BuiltLaw, FoundTold, FoundLaw}
use Rattle.unaccepted_memory.proofs.Results.{err_ok, same_ok}
use Rattle.unaccepted_memory.proofs.PartLaws.{down_even}
use Rattle.unaccepted_memory.proofs.ImageLaws.{is_image_lem}

-- a check that was passed
passed : (b : Bool) (x : AcceptError) (r : Result Shape AcceptError) (h : Shape) → cond b (Err x) r ≡ Ok h → (b ≡ false) × (r ≡ Ok h)
passed true x r h e = err_ok h x e
passed false x r h e = (refl, e)

pub built_told : BuiltLaw
built_told from to held h e =
    let a = passed (leb to from) OutOfBounds _ h e in
    let b = passed (ltb (2 ^ 64 - 2 ^ 21) to) ArithmeticOverflow _ h a.1 in
    let c = passed (leb (2 ^ 64) (covered_end (built_shape from to))) ArithmeticOverflow _ h b.1 in
    let d = passed (ltb held (3 + words_for from to)) OutOfBounds _ h c.1 in
    subst BuiltTold (same_ok (built_shape from to) h d.1)
    (record { unit = omega arith; words = mul-mod_right 8 (words_for from to); base = down_even from (2 ^ 21) })

-- a header that was read
record Read (img : List ℕ) (h : Shape) : Type 0 where
  three : 3 ≤ length img
  unit : 0 < h.unit
  words : h.length % 8 ≡ 0
  word_0 : get_or img 0 0 ≡ 1 + h.unit * 2 ^ 32
  word_1 : get_or img 1 0 ≡ h.base
  word_2 : get_or img 2 0 ≡ h.length

read : (placed : Bool) (img : List ℕ) (h : Shape) → decoded_from placed img ≡ Ok h → Read img h
read placed img h e =
    let w = get_or img 0 0 in
    let n = get_or img 2 0 in
    let three = passed (ltb (length img) 3) WrongImage _ h e in
    let a = passed (not (eqb (version_in w) 1)) BadVersion _ h three.1 in
    let b = passed (not (is_power_of_two (unit_in w))) BadUnit _ h a.1 in
    let c = passed (not placed || bad_length n) BadBitmap _ h b.1 in
    let d = passed (leb (2 ^ 64) (covered_end (shape (unit_in w) (get_or img 1 0) n))) BadCoverage _ h c.1 in
    let version : w % 2 ^ 32 ≡ 1 = eqb-true _ _ (not-false _ a.0) in
    let power = power_positive (unit_in w) (not-false _ b.0) in
    let long = or_parts (eqb n 0) (not (eqb (n % 8) 0)) (or_parts (not placed) (bad_length n) c.0).1 in
    subst (Read img) (same_ok (shape (unit_in w) (get_or img 1 0) n) h d.1)
    (record { three = ltb-false _ _ three.0; unit = power; words = eqb-true _ _ (not-false _ long.1); word_0 = omega arith; word_1 = refl; word_2 = refl })

pub found_told : FoundLaw
found_told entries img h e = at (pointer_in entries) e
  where
    within : (r : Result Shape AcceptError) (b : Bool) → decoded_from b img ≡ r → whole img r ≡ Ok h → FoundTold h img
    within (Err x) b q e = err_ok h x e
    within (Ok s) b q e =
        let c = passed (ltb (length img) (bitmap_end s)) WrongImage (Ok s) h e in
        let d : Read img h = subst (Read img) (same_ok s h c.1) (read b img s q) in
        let room : bitmap_end s ≤ length img = ltb-false _ _ c.0 in
        record {
          unit = d.unit;
          words = d.words;
          image = is_image_lem h img (record {
            three = d.three;
            word_0 = d.word_0;
            word_1 = d.word_1;
            word_2 = d.word_2;
            room = subst (λ (y : Shape). bitmap_end y ≤ length img) (same_ok s h c.1) room;
          });
        }

    at : (r : Result ℕ AcceptError) → table_at img r ≡ Ok h → FoundTold h img
    at (Err x) e = err_ok h x e
    at (Ok p) e = within (decoded_from (may_lie p) img) (may_lie p) refl e
