-- Laws of a part of an image that was lent and came back.
use Rattle.std.proofs.Common.{◌≡◌, ℕ, ◌+◌, ◌-◌, ◌*◌, ◌/◌, ◌%◌, ◌<◌, ◌≤◌, min, List, ◌++◌, length, get_or, take, drop, sym, ap, ◌∙◌, inl, inr, arith}
use borrow.Rule.Slice.PartMut.{put_mid}
use Rattle.std.specs.List.{between}
use Rattle.std.proofs.lemmas.List.Edits.{length-between, get_or-between}
use Rattle.std.proofs.lemmas.List.{drop-drop, get_or-take, get_or-drop}
use Rattle.std.proofs.lemmas.Slice.{take-put_mid_below, drop-put_mid, between-put_mid}
use Rattle.std.proofs.lemmas.Bool.{cases_lt, and_from, le-leb, cond-true}
use Rattle.std.specs.Int.{bit_at}
use Rattle.bitmap.specs.Marks.{marked, units_written, RangeWritten}
use Rattle.bitmap.specs.Parts.{with_part, Lent, part_written}
use Rattle.bitmap.proofs.MarkLaws.{written_inside, written_outside}

-- lending `&mut xs[i..j]`, which comes back as ys: what a caller of a function on the part knows of the whole
pub lent : (i j : ℕ) (xs ys : List ℕ) → i ≤ j → j ≤ length xs → length ys ≡ length (between i j xs)
    → Lent i j xs ys (put_mid i (j - i) xs ys)
lent i j xs ys p q kept =
    let e : length ys ≡ j - i = kept ∙ length-between xs i j q in
    record {
      whole = ap (λ z. take i xs ++ (ys ++ z)) (drop-drop (j - i) i xs ∙ ap (λ m. drop m xs) (omega arith));
      front = take-put_mid_below i (j - i) xs ys i (omega arith) (omega arith);
      back = drop-put_mid i (j - i) xs ys j (omega arith) (omega arith) e;
      middle = between-put_mid i (j - i) xs ys j (omega arith) e;
    }

-- the image with a range of a part written
pub part_written_lem : (v i j : ℕ) (xs ys after : List ℕ) (a b : ℕ) → i ≤ j → j ≤ length xs → Lent i j xs ys after
    → ys ≡ units_written v (between i j xs) a b → after ≡ part_written v i j xs a b
part_written_lem v i j xs ys after a b p q l is =
    l.whole ∙ ap (with_part i j xs) is ∙ sym (cond-true _ _ _ (and_from _ _ (le-leb i j p) (le-leb j (length xs) q)))

-- the units of a part are units of the image
pub marked_part : (xs : List ℕ) (i j k : ℕ) → k < 64 * (j - i) → marked (between i j xs) k ≡ marked xs (64 * i + k)
unfolding marked
marked_part xs i j k h =
    let d : (64 * i + k) / 64 ≡ i + k / 64 = omega arith in
    let m : (64 * i + k) % 64 ≡ k % 64 = omega arith in
    rw (d, m) (ap (λ x. bit_at x (k % 64)) (get_or-between xs i j (k / 64) 0 (omega arith)))

-- the units before the part and behind it are as they were
module _ (i j : ℕ) (xs ys after : List ℕ) (l : Lent i j xs ys after) where
  pub marked_front : (k : ℕ) → k < 64 * i → marked after k ≡ marked xs k
  unfolding marked
  marked_front k h =
      let p : k / 64 < i = omega arith in
      ap (λ x. bit_at x (k % 64)) (sym (get_or-take i after (k / 64) 0 p) ∙ ap (λ ws. get_or ws (k / 64) 0) l.front ∙ get_or-take i xs (k / 64) 0 p)

  pub marked_back : (k : ℕ) → 64 * j ≤ k → marked after k ≡ marked xs k
  unfolding marked
  marked_back k h =
      let e : j + (k / 64 - j) ≡ k / 64 = omega arith in
      ap (λ x. bit_at x (k % 64)) (rw e at (sym (get_or-drop j after (k / 64 - j) 0) ∙ ap (λ ws. get_or ws (k / 64 - j) 0) l.back ∙ get_or-drop j xs (k / 64 - j) 0))

-- v was written to the units from a to b - 1 of the part
module _ (v : ℕ) (bound : v < 2) (i j : ℕ) (xs ys after : List ℕ) (a b : ℕ) (l : Lent i j xs ys after)
    (is : ys ≡ units_written v (between i j xs) a b) (p : i ≤ j) (q : j ≤ length xs) where
  long : length (between i j xs) ≡ j - i
  long = length-between xs i j q

  -- unit k of the part, as a unit of the image
  at_part : (k : ℕ) → 64 * i ≤ k → k < 64 * j → marked after k ≡ marked (units_written v (between i j xs) a b) (k - 64 * i)
  at_part k lo hi =
      let e : 64 * i + (k - 64 * i) ≡ k = omega arith in
      rw e at (sym (marked_part after i j (k - 64 * i) (omega arith)) ∙ ap (λ ws. marked ws (k - 64 * i)) (l.middle ∙ is))

  was_part : (k : ℕ) → 64 * i ≤ k → k < 64 * j → marked (between i j xs) (k - 64 * i) ≡ marked xs k
  was_part k lo hi =
      let e : 64 * i + (k - 64 * i) ≡ k = omega arith in
      rw e at (marked_part xs i j (k - 64 * i) (omega arith))

  pub part_marks : RangeWritten v xs after (64 * i + a) (min (64 * i + b) (64 * j))
  part_marks = record {
    inside = λ k h lo hi.
        at_part k (omega arith) (omega arith)
        ∙ written_inside v bound (between i j xs) a b (k - 64 * i) (omega (arith, long)) (omega arith) (omega arith);
    outside = λ k h.
        elim (cases_lt k (64 * i)) [
          | inl f ↦ marked_front i j xs ys after l k f
          | inr f ↦ elim (cases_lt k (64 * j)) [
            | inl g ↦ at_part k f g
                ∙ written_outside v bound (between i j xs) a b (k - 64 * i) (elim h [ inl o ↦ inl (omega arith) | inr o ↦ inr (omega arith) ])
                ∙ was_part k f g
            | inr g ↦ marked_back i j xs ys after l k g
          ]
        ];
  }
