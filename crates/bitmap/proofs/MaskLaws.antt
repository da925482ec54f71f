-- From masks to marks: what a word's share of a range is, what writing it does, and what a search sees through it.
use Rattle.std.proofs.Common.{◌≡◌, ℕ, ◌+◌, ◌-◌, ◌*◌, ◌/◌, ◌%◌, ◌^◌, ◌<◌, ◌≤◌, max, min, ◌≢◌, ◌⊎◌, List, length, get_or, set, sym, refl, ap, ◌∙◌, ap₂, inl, inr, arith, pow_pos, pow_mono, w64}
use lib.Bits.{bit_and, and_le_l, and_le_r, or_lt}
use Rattle.std.specs.Int.{bit_at, trailing_zeros}
use Rattle.std.proofs.lemmas.Nat.Bits.{bit_at-lt, bit_at_and, bit_at_or, bit_at_not, bit_at-zero, bit_at-trailing_zeros, bit_at_ones, bit_at_ones_above, bit_at_mask_inside, bit_at_mask_below, bit_at_mask_above, ones_shl, ones_shr, same_from_bits, same_from_bits_below}
use Rattle.std.proofs.lemmas.List.FromFn.{fill_by_all}
use Rattle.std.proofs.lemmas.List.Edits.{fill_by_more}
use Rattle.std.proofs.lemmas.List.{get_or-set_other}
use Rattle.std.proofs.lemmas.Bool.{cases_lt}
use Rattle.bitmap.specs.declared.Mark.{Mark}
use Rattle.bitmap.specs.declared.Mark.TheVariants.{Set, Clear}
use Rattle.bitmap.specs.Marks.{marked, Words64, packed, words_of, written, units_written, capacity_of}
use Rattle.bitmap.specs.Masks.{bits_from, share, as_bit, put, bits_of, matching}
use Rattle.bitmap.specs.Search.{First, Nowhere}
use Rattle.bitmap.proofs.MarkLaws.{marked_lt, marked_at, packed_lt, packed_bit, written_in, written_out, written_lt, in_or_out}

-- the bits from lo to hi - 1, by shifts
pub bits_by_shifts : (lo hi : ℕ) → lo < 64 → 0 < hi → hi ≤ 64
    → bit_and ((2 ^ 64 - 1) * 2 ^ lo % 2 ^ 64) ((2 ^ 64 - 1) / 2 ^ (64 - hi)) ≡ bits_from lo hi
bits_by_shifts lo hi p q r =
    let right : (2 ^ 64 - 1) / 2 ^ (64 - hi) ≡ 2 ^ hi - 1 = ones_shr 64 (64 - hi) (omega arith) ∙ ap (λ n. 2 ^ n - 1) (omega arith) in
    ap₂ bit_and (ones_shl 64 lo (omega arith)) right
    ∙ same_from_bits _ _ (λ i.
    bit_at_and (2 ^ 64 - 2 ^ lo) (2 ^ hi - 1) i
    ∙ elim (in_or_out lo hi i) [
      | inl k ↦ omega (arith, bit_at_mask_inside lo 64 i k.0 (omega arith), bit_at_ones hi i k.1, bit_at_mask_inside lo hi i k.0 k.1)
      | inr (inl k) ↦ omega (arith, bit_at_mask_below lo 64 i k, bit_at_mask_below lo hi i k)
      | inr (inr k) ↦ omega (arith, bit_at_ones_above hi i k, bit_at_mask_above lo hi i k)
    ])

-- bit n of the share of word w is unit 64 * w + n
module _ (a b w : ℕ) where
  pub share_in : (n : ℕ) → n < 64 → a ≤ 64 * w + n → 64 * w + n < b → bit_at (share a b w) n ≡ 1
  unfolding share
  share_in n s p q = bit_at_mask_inside (a - 64 * w) (min (b - 64 * w) 64) n (omega arith) (omega arith)

  pub share_out : (n : ℕ) → n < 64 → (64 * w + n < a) ⊎ (b ≤ 64 * w + n) → bit_at (share a b w) n ≡ 0
  unfolding share
  share_out n s (inl p) = bit_at_mask_below (a - 64 * w) (min (b - 64 * w) 64) n (omega arith)
  share_out n s (inr p) = bit_at_mask_above (a - 64 * w) (min (b - 64 * w) 64) n (omega arith)

  pub share_lt : share a b w < 2 ^ 64
  unfolding share
  share_lt = omega (arith, pow_mono {i = min (b - 64 * w) 64} {j = 64} (omega arith), pow_pos (a - 64 * w))

-- the bits of a word after a mark was written to the bits of a mask
put_lt : (v : Mark) (x m : ℕ) → x < 2 ^ 64 → m < 2 ^ 64 → put v x m < 2 ^ 64
put_lt Set x m p q = or_lt 64 x m p q
put_lt Clear x m p q = omega (arith, and_le_l x (2 ^ 64 - 1 - m))

put_in : (v : Mark) (x m n : ℕ) → m < 2 ^ 64 → n < 64 → bit_at m n ≡ 1 → bit_at (put v x m) n ≡ as_bit v
put_in Set x m n q s e = bit_at_or x m n ∙ omega (arith, bit_at-lt x n)
put_in Clear x m n q s e = bit_at_and x (2 ^ 64 - 1 - m) n ∙ omega (arith, bit_at_not w64 m n q s)

put_out : (v : Mark) (x m n : ℕ) → m < 2 ^ 64 → n < 64 → bit_at m n ≡ 0 → bit_at (put v x m) n ≡ bit_at x n
put_out Set x m n q s e = bit_at_or x m n ∙ omega arith
put_out Clear x m n q s e = bit_at_and x (2 ^ 64 - 1 - m) n ∙ omega (arith, bit_at_not w64 m n q s, bit_at-lt x n)

pub as_bit_lt : (v : Mark) → as_bit v < 2
as_bit_lt Set = omega arith
as_bit_lt Clear = omega arith

-- word w once the mark v was written to the units from a to b - 1
abbrev pub word_written : Mark → List ℕ → ℕ → ℕ → ℕ → ℕ
word_written v ws a b w = packed (written (as_bit v) a b (marked ws)) (64 * w) 64

-- updating the words ws, all of 64 bits
module _ (v : Mark) (ws : List ℕ) (a b : ℕ) (whole : Words64 ws) where
  written_small : (k : ℕ) → written (as_bit v) a b (marked ws) k < 2
  written_small = written_lt (as_bit v) a b (marked ws) (as_bit_lt v) (marked_lt ws)

  -- a word of 64 bits is that word if its bits are those units
  word_is : (w x : ℕ) → x < 2 ^ 64 → ((n : ℕ) → n < 64 → bit_at x n ≡ written (as_bit v) a b (marked ws) (64 * w + n))
      → x ≡ word_written v ws a b w
  word_is w x h e =
      same_from_bits_below 64 x (word_written v ws a b w) h (packed_lt _ written_small (64 * w) 64) (λ n s.
      e n s ∙ sym (packed_bit _ written_small (64 * w) 64 n s))

  pub put_is : (w : ℕ) → put v (get_or ws w 0) (share a b w) ≡ word_written v ws a b w
  put_is w =
      let m : ℕ = share a b w in
      let l : m < 2 ^ 64 = share_lt a b w in
      word_is w _ (put_lt v (get_or ws w 0) m (whole w) l) (λ n s.
      elim (in_or_out a b (64 * w + n)) [
        | inl r ↦ put_in v (get_or ws w 0) m n l s (share_in a b w n s r.0 r.1) ∙ sym (written_in (as_bit v) a b (marked ws) (64 * w + n) r.0 r.1)
        | inr r ↦ put_out v (get_or ws w 0) m n l s (share_out a b w n s r)
            ∙ sym (written_out (as_bit v) a b (marked ws) (64 * w + n) r ∙ marked_at ws w n s)
      ])

  -- a word that holds no unit of the range
  pub word_kept : (w : ℕ) → min b (64 * w + 64) ≤ max a (64 * w) → get_or ws w 0 ≡ word_written v ws a b w
  word_kept w away =
      word_is w _ (whole w) (λ n s.
      sym (written_out (as_bit v) a b (marked ws) (64 * w + n) (elim (cases_lt (64 * w + n) a) [ inl p ↦ inl p | inr p ↦ inr (omega arith) ]) ∙ marked_at ws w n s))

-- The words us are the words ws of which those below w were updated.
pub record Updated (v : Mark) (ws us : List ℕ) (a b w : ℕ) : Type 0 where
  pub whole : Words64 ws
  pub below : (k : ℕ) → k < w → get_or us k 0 ≡ word_written v ws a b k
  pub above : (k : ℕ) → w ≤ k → get_or us k 0 ≡ get_or ws k 0

-- at first, after one word more, and at the end
pub updated_none : (v : Mark) (ws : List ℕ) (a b w : ℕ) → Words64 ws → w ≤ a / 64 → Updated v ws ws a b w
updated_none v ws a b w h p = record {
  whole = h;
  below = λ k l. word_kept v ws a b h k (omega arith);
  above = λ k l. refl;
}

pub updated_more : (v : Mark) (ws us vs : List ℕ) (a b w x next : ℕ) → w < length us → vs ≡ set us w x
    → x ≡ put v (get_or us w 0) (share a b w) → next ≡ w + 1 → Updated v ws us a b w → Updated v ws vs a b next
updated_more v ws us vs a b w x next l e f s u =
    let word : x ≡ word_written v ws a b w =
    f ∙ ap (λ y. put v y (share a b w)) (u.above w (omega arith)) ∙ put_is v ws a b u.whole w in
    record {
      whole = u.whole;
      below = λ k h. rw (e, word) (fill_by_more (word_written v ws a b) us w 0 l u.below k (omega arith));
      above = λ k h. let ne : k ≢ w = omega arith in rw (e, get_or-set_other) (u.above k (omega arith));
    }

pub updated_all : (v : Mark) (ws us : List ℕ) (a b w : ℕ) → length us ≡ length ws → ((k : ℕ) → w ≤ k → k < length ws → min b (64 * k + 64) ≤ max a (64 * k))
    → Updated v ws us a b w → us ≡ units_written (as_bit v) ws a b
unfolding units_written words_of
updated_all v ws us a b w e rest u =
    fill_by_all (word_written v ws a b) us (length ws) 0 e (λ k h.
    elim (cases_lt k w) [
      | inl l ↦ u.below k l
      | inr l ↦ u.above k l ∙ word_kept v ws a b u.whole k (rest k l h)
    ])

-- the units of a word that have the mark
bit_at-bits_of : (v : Mark) (ws : List ℕ) (w n : ℕ) → get_or ws w 0 < 2 ^ 64 → n < 64
    → bit_at (bits_of v (get_or ws w 0)) n ≡ matching v ws (64 * w + n)
bit_at-bits_of Set ws w n h s = sym (marked_at ws w n s)
bit_at-bits_of Clear ws w n h s = bit_at_not w64 (get_or ws w 0) n h s ∙ ap (λ m. 1 - m) (sym (marked_at ws w n s))

matching_lt : (v : Mark) (ws : List ℕ) (k : ℕ) → matching v ws k < 2
matching_lt Set ws k = marked_lt ws k
matching_lt Clear ws k = omega arith

-- a search over words: hits is what word w has of the range
module _ (v : Mark) (ws : List ℕ) (a b w hits : ℕ) (word : get_or ws w 0 < 2 ^ 64)
    (is : hits ≡ bit_and (bits_of v (get_or ws w 0)) (share a b w)) where
  hit : (n : ℕ) → n < 64 → bit_at hits n ≡ min (matching v ws (64 * w + n)) (bit_at (share a b w) n)
  hit n s =
      ap (λ x. bit_at x n) is ∙ bit_at_and (bits_of v (get_or ws w 0)) (share a b w) n
      ∙ ap (λ m. min m (bit_at (share a b w) n)) (bit_at-bits_of v ws w n word s)

  -- what was passed, and the first n bits of word w if they hold no hit
  passed : (n : ℕ) → n ≤ 64 → ((j : ℕ) → j < n → bit_at hits j ≡ 0)
      → Nowhere (matching v ws) a (min b (64 * w)) → Nowhere (matching v ws) a (min b (64 * w + n))
  passed n s z inv j p q =
      elim (cases_lt j (64 * w)) [
        | inl h ↦ inv j p (omega arith)
        | inr h ↦
            let e : 64 * w + (j - 64 * w) ≡ j = omega arith in
            let i = share_in a b w (j - 64 * w) (omega arith) (omega arith) (omega arith) in
            rw e at (one _ _ _ i (hit (j - 64 * w) (omega arith)) (z (j - 64 * w) (omega arith)))
      ]
    where
      one : (x y r : ℕ) → y ≡ 1 → r ≡ min x y → r ≡ 0 → x ≡ 0
      one x y r p q h = omega arith

  pub none_in_word : hits ≡ 0 → Nowhere (matching v ws) a (min b (64 * w)) → Nowhere (matching v ws) a (min b (64 * w + 64))
  none_in_word z inv j p q = passed 64 (omega arith) (λ n s. ap (λ x. bit_at x n) z ∙ bit_at-zero n) inv j p (omega arith)

  pub found_in_word : (k : ℕ) → k ≡ 64 * w + trailing_zeros w64 hits → w < length ws → b < 2 ^ 64 → 0 < hits
      → Nowhere (matching v ws) a (min b (64 * w)) → First (matching v ws) a (min b (capacity_of ws)) k
  found_in_word k found h u pos inv =
      let small : hits < 2 ^ 64 = omega (arith, and_le_r (bits_of v (get_or ws w 0)) (share a b w), share_lt a b w) in
      let t = bit_at-trailing_zeros w64 hits pos small in
      let n : ℕ = trailing_zeros w64 hits in
      let here = hit n t.0 in
      let r : (a ≤ 64 * w + n) × (64 * w + n < b) =
      elim (in_or_out a b (64 * w + n)) [ inl r ↦ r | inr r ↦ absurd (omega (arith, share_out a b w n t.0 r, here, t.1)) ] in
      rw found (record {
        from = r.0;
        to = omega (arith, r.1, t.0);
        here = omega (arith, t.1, here, matching_lt v ws (64 * w + n));
        before = λ j p q. passed n (omega (arith, t.0)) t.2 inv j p (omega (arith, r.1));
      })
