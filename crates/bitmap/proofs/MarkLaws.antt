-- Laws of marks, for whoever uses a bitmap: they speak of units and never of masks.
use Rattle.std.proofs.Common.{◌≡◌, ℕ, zero, suc, ◌+◌, ◌*◌, ◌/◌, ◌%◌, ◌^◌, ◌<◌, ◌≤◌, ◌⊎◌, List, length, get_or, sym, ap, ◌∙◌, inl, inr, add-zero, arith}
use Rattle.std.specs.Int.{bit_at}
use Rattle.std.proofs.lemmas.Nat.Bits.{bit_at-lt, bit_at_lowest, bit_at-suc, bit_at-zero, same_from_bits_below}
use Rattle.std.proofs.lemmas.List.FromFn.{get_or-map-range_with_len, length-map-range_with_len}
use Rattle.std.proofs.lemmas.List.{get_or_past, get_or-replicate, length-replicate, ext_get_or}
use Rattle.std.proofs.lemmas.Bool.Decides.{nat_tests}
use Rattle.std.proofs.lemmas.Bool.{cases_lt}
use Rattle.bitmap.specs.Marks.{marked, Words64, packed, words_of, written, units_written, zeroed, RangeWritten}
use Rattle.bitmap.specs.Theorems.{MarksTell, SetThenClear, ClearThenSet}

pub marked_lt : (ws : List ℕ) (k : ℕ) → marked ws k < 2
unfolding marked
marked_lt ws k = bit_at-lt (get_or ws (k / 64) 0) (k % 64)

pub marked_past : (ws : List ℕ) (k : ℕ) → 64 * length ws ≤ k → marked ws k ≡ 0
unfolding marked
marked_past ws k h = ap (λ x. bit_at x (k % 64)) (get_or_past ws (k / 64) 0 (omega arith)) ∙ bit_at-zero (k % 64)

-- bit n of word w is unit 64 * w + n
pub marked_at : (ws : List ℕ) (w n : ℕ) → n < 64 → marked ws (64 * w + n) ≡ bit_at (get_or ws w 0) n
unfolding marked
marked_at ws w n s =
    let d : (64 * w + n) / 64 ≡ w = omega arith in
    let m : (64 * w + n) % 64 ≡ n = omega arith in
    rw (d, m)

-- the marks tell the words
pub marks_tell : MarksTell
marks_tell us vs e p q h =
    ext_get_or 0 us vs e (λ w l.
    same_from_bits_below 64 (get_or us w 0) (get_or vs w 0) (p w) (q w) (λ n s.
    sym (marked_at us w n s) ∙ h (64 * w + n) (omega arith) ∙ marked_at vs w n s))

-- a number made of bits has them
module _ (f : ℕ → ℕ) (small : (k : ℕ) → f k < 2) where
  pub packed_lt : (k n : ℕ) → packed f k n < 2 ^ n
  unfolding packed
  packed_lt k zero = omega arith
  packed_lt k (suc n) = omega (arith, packed_lt (k + 1) n, small k)

  pub packed_bit : (k n i : ℕ) → i < n → bit_at (packed f k n) i ≡ f (k + i)
  unfolding packed
  packed_bit k zero i l = absurd (omega arith)
  packed_bit k (suc n) zero l = bit_at_lowest _ ∙ rw add-zero (omega (arith, small k))
  packed_bit k (suc n) (suc i) l =
      let half : (f k + 2 * packed f (k + 1) n) / 2 ≡ packed f (k + 1) n = omega (arith, small k) in
      bit_at-suc _ i ∙ ap (λ x. bit_at x i) half ∙ packed_bit (k + 1) n i (omega arith) ∙ ap f (omega arith)

-- words made of marks
pub word_of : (f : ℕ → ℕ) (n w : ℕ) → w < n → get_or (words_of f n) w 0 ≡ packed f (64 * w) 64
unfolding words_of
word_of f n w h = get_or-map-range_with_len (λ w. packed f (64 * w) 64) 0 n w w 0 h (omega arith)

pub length_words_of : (f : ℕ → ℕ) (n : ℕ) → length (words_of f n) ≡ n
unfolding words_of
length_words_of f n = length-map-range_with_len (λ w. packed f (64 * w) 64) 0 n

module _ (f : ℕ → ℕ) (small : (k : ℕ) → f k < 2) (n : ℕ) where
  pub marked_words_of : (k : ℕ) → k < 64 * n → marked (words_of f n) k ≡ f k
  unfolding marked
  marked_words_of k h =
      ap (λ x. bit_at x (k % 64)) (word_of f n (k / 64) (omega arith))
      ∙ packed_bit f small (64 * (k / 64)) 64 (k % 64) (omega arith) ∙ ap f (omega arith)

  pub words64_words_of : Words64 (words_of f n)
  words64_words_of w =
      elim (cases_lt w n) [
        | inl h ↦ rw (word_of f n w h) (packed_lt f small (64 * w) 64)
        | inr h ↦ rw (get_or_past (words_of f n) w 0 (rw length_words_of h)) (omega arith)
      ]

-- words are those of their marks
pub words_of_marked : (ws : List ℕ) → Words64 ws → words_of (marked ws) (length ws) ≡ ws
words_of_marked ws h =
    let long : length (words_of (marked ws) (length ws)) ≡ length ws = length_words_of (marked ws) (length ws) in
    marks_tell _ ws long (words64_words_of (marked ws) (marked_lt ws) (length ws)) h (λ k l.
    marked_words_of (marked ws) (marked_lt ws) (length ws) k (omega arith))

-- a function with a value written to a range
pub written_in : (v a b : ℕ) (f : ℕ → ℕ) (k : ℕ) → a ≤ k → k < b → written v a b f k ≡ v
unfolding written
written_in v a b f k p q = grind (arith, nat_tests)

pub written_out : (v a b : ℕ) (f : ℕ → ℕ) (k : ℕ) → (k < a) ⊎ (b ≤ k) → written v a b f k ≡ f k
unfolding written
written_out v a b f k h = grind (arith, nat_tests)

-- a unit is in a range or outside of it
pub in_or_out : (a b k : ℕ) → ((a ≤ k) × (k < b)) ⊎ ((k < a) ⊎ (b ≤ k))
in_or_out a b k = grind arith

pub written_lt : (v a b : ℕ) (f : ℕ → ℕ) → v < 2 → ((k : ℕ) → f k < 2) → (k : ℕ) → written v a b f k < 2
unfolding written
written_lt v a b f h small k = grind (arith, nat_tests, small k)

-- words with a value written to a range of units
pub length_written : (v : ℕ) (ws : List ℕ) (a b : ℕ) → length (units_written v ws a b) ≡ length ws
unfolding units_written
length_written v ws a b = length_words_of (written v a b (marked ws)) (length ws)

module _ (v : ℕ) (bound : v < 2) (ws : List ℕ) (a b : ℕ) where
  pub words64_written : Words64 (units_written v ws a b)
  unfolding units_written
  words64_written = words64_words_of (written v a b (marked ws)) (written_lt v a b (marked ws) bound (marked_lt ws)) (length ws)

  -- the marks after, within the words
  pub marked_written : (k : ℕ) → k < 64 * length ws → marked (units_written v ws a b) k ≡ written v a b (marked ws) k
  unfolding units_written
  marked_written = marked_words_of (written v a b (marked ws)) (written_lt v a b (marked ws) bound (marked_lt ws)) (length ws)

  -- the marks after, all of them, of a range that the words hold
  pub marks_written : b ≤ 64 * length ws → (k : ℕ) → marked (units_written v ws a b) k ≡ written v a b (marked ws) k
  marks_written h k =
      elim (cases_lt k (64 * length ws)) [
        | inl l ↦ marked_written k l
        | inr l ↦ marked_past (units_written v ws a b) k (rw length_written l)
            ∙ sym (written_out v a b (marked ws) k (inr (omega arith)) ∙ marked_past ws k l)
      ]

  pub written_inside : (k : ℕ) → k < 64 * length ws → a ≤ k → k < b → marked (units_written v ws a b) k ≡ v
  written_inside k h p q = marked_written k h ∙ written_in v a b (marked ws) k p q

  pub written_outside : (k : ℕ) → (k < a) ⊎ (b ≤ k) → marked (units_written v ws a b) k ≡ marked ws k
  written_outside k h =
      elim (cases_lt k (64 * length ws)) [
        | inl l ↦ marked_written k l ∙ written_out v a b (marked ws) k h
        | inr l ↦ marked_past (units_written v ws a b) k (rw length_written l) ∙ sym (marked_past ws k l)
      ]

  pub range_written : (vs : List ℕ) → vs ≡ units_written v ws a b → RangeWritten v ws vs a b
  range_written vs e = rw e (record { inside = written_inside; outside = written_outside })

-- writing v to a range that had v before something else was written there gives the words back
written_back : (v u : ℕ) → v < 2 → u < 2 → (ws : List ℕ) (a b : ℕ) → Words64 ws
    → ((k : ℕ) → k < 64 * length ws → a ≤ k → k < b → marked ws k ≡ v) → units_written v (units_written u ws a b) a b ≡ ws
written_back v u p q ws a b h had =
    let us : List ℕ = units_written u ws a b in
    let long : length us ≡ length ws = length_written u ws a b in
    let long' : length (units_written v us a b) ≡ length us = length_written v us a b in
    marks_tell (units_written v us a b) ws (long' ∙ long) (words64_written v p us a b) h (λ k l.
    elim (in_or_out a b k) [
      | inl r ↦ written_inside v p us a b k (omega arith) r.0 r.1 ∙ sym (had k (omega arith) r.0 r.1)
      | inr r ↦ written_outside v p us a b k r ∙ written_outside u q ws a b k r
    ])

pub set_then_clear : SetThenClear
set_then_clear ws a b h none = written_back 0 1 (omega arith) (omega arith) ws a b h (λ k l p q. none k p q)

pub clear_then_set : ClearThenSet
clear_then_set ws a b h full =
    written_back 1 0 (omega arith) (omega arith) ws a b h (λ k l p q. omega (arith, full k p q, marked_lt ws k))

-- words with no unit marked
pub marked_zeroed : (ws : List ℕ) (k : ℕ) → marked (zeroed ws) k ≡ 0
unfolding marked
marked_zeroed ws k =
    let none : get_or (zeroed ws) (k / 64) 0 ≡ 0 =
    elim (cases_lt (k / 64) (length ws)) [
      | inl l ↦ get_or-replicate (length ws) (k / 64) 0 0 l
      | inr l ↦ get_or_past (zeroed ws) (k / 64) 0 (rw length-replicate l)
    ] in
    ap (λ x. bit_at x (k % 64)) none ∙ bit_at-zero (k % 64)

-- words that are all zero are those of no marks
pub all_zero : (ws vs : List ℕ) → length vs ≡ length ws → ((k : ℕ) → k < length ws → get_or vs k 0 ≡ 0) → vs ≡ zeroed ws
all_zero ws vs e z =
    let long : length (zeroed ws) ≡ length ws = length-replicate (length ws) 0 in
    ext_get_or 0 vs (zeroed ws) (e ∙ sym long) (λ k l. z k (omega arith) ∙ sym (get_or-replicate (length ws) k 0 0 (omega arith)))
