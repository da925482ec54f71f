-- The ones of all words together are the marks.
use Rattle.std.proofs.Common.{◌≡◌, ℕ, zero, suc, ◌+◌, ◌-◌, ◌*◌, ◌/◌, ◌%◌, ◌^◌, ◌<◌, List, [], ◌∷◌, ◌++◌, length, fold, sum_by, count_ones, min, sym, refl, ap, ◌∙◌, ap₂, zero-add, arith}
use Rattle.std.specs.Int.{bit_at}
use lib.Count.{ones, ones_step}
use Rattle.std.specs.List.{range_with_len}
use Rattle.std.proofs.lemmas.List.Sums.{sum_by-cons, sum_by-append}
use Rattle.std.proofs.lemmas.Nat.Bits.{bit_at_lowest, bit_at-suc}
use Rattle.bitmap.specs.Marks.{marked, Words64, unit_count}

-- sums over n numbers, from a on and from b on
sum_same : (f g : ℕ → ℕ) (a b n : ℕ) → ((i : ℕ) → i < n → f (a + i) ≡ g (b + i)) → sum_by f (range_with_len a n) ≡ sum_by g (range_with_len b n)
sum_same f g a b zero e = refl
sum_same f g a b (suc n) e =
    sum_by-cons f a (range_with_len (a + 1) n)
    ∙ ap₂ ◌+◌ (ap f (omega arith) ∙ e zero (omega arith) ∙ ap g (omega arith))
    (sum_same f g (a + 1) (b + 1) n (λ i h. ap f (omega arith) ∙ e (suc i) (omega arith) ∙ ap g (omega arith)))
    ∙ sym (sum_by-cons g b (range_with_len (b + 1) n))

range-append : (a m n : ℕ) → range_with_len a (m + n) ≡ range_with_len a m ++ range_with_len (a + m) n
range-append a zero n = ap₂ range_with_len (omega arith) (omega arith)
range-append a (suc m) n =
    let next : a + 1 + m ≡ a + suc m = omega arith in
    let e : suc m + n ≡ suc (m + n) = omega arith in
    ap (range_with_len a) e ∙ ap (λ xs. a ∷ xs) (range-append (a + 1) m n ∙ ap (λ k. range_with_len (a + 1) m ++ range_with_len k n) next)

ones_bits : (k x : ℕ) → x < 2 ^ k → count_ones x ≡ sum_by (bit_at x) (range_with_len 0 k)
unfolding ones
ones_bits zero x h = let e : x ≡ 0 = omega arith in ap count_ones e
ones_bits (suc k) x h =
    ones_step x
    ∙ ap₂ ◌+◌ (sym (bit_at_lowest x)) (ones_bits k (x / 2) (omega arith) ∙ sum_same (bit_at (x / 2)) (bit_at x) 0 1 k (λ i l. ap (bit_at (x / 2)) (zero-add i) ∙ sym (bit_at-suc x i) ∙ ap (bit_at x) (omega arith)))
    ∙ sym (sum_by-cons (bit_at x) 0 (range_with_len 1 k))

-- the ones are the marks
pub counted : (ws : List ℕ) → Words64 ws → sum_by count_ones ws ≡ unit_count ws
unfolding marked
counted [] h = refl
counted (x ∷ ws) h =
    sum_by-cons count_ones x ws
    ∙ ap₂ ◌+◌
    (ones_bits 64 x (h zero) ∙ sum_same (bit_at x) (marked (x ∷ ws)) 0 0 64 first)
    (counted ws (λ w. h (suc w)) ∙ sum_same (marked ws) (marked (x ∷ ws)) 0 64 (64 * length ws) later)
    ∙ sym (ap (λ n. sum_by (marked (x ∷ ws)) (range_with_len 0 n)) long ∙ ap (sum_by (marked (x ∷ ws))) (range-append 0 64 (64 * length ws))
    ∙ sum_by-append (marked (x ∷ ws)) (range_with_len 0 64) (range_with_len 64 (64 * length ws)))
  where
    first : (i : ℕ) → i < 64 → bit_at x (0 + i) ≡ marked (x ∷ ws) (0 + i)
    first i l = let d : (0 + i) / 64 ≡ 0 = omega arith in let m : (0 + i) % 64 ≡ 0 + i = omega arith in rw (d, m)

    later : (i : ℕ) → i < 64 * length ws → marked ws (0 + i) ≡ marked (x ∷ ws) (64 + i)
    later i l = let d : (64 + i) / 64 ≡ suc ((0 + i) / 64) = omega arith in let m : (64 + i) % 64 ≡ (0 + i) % 64 = omega arith in rw (d, m)

    long : 64 * suc (length ws) ≡ 64 + 64 * length ws
    long = omega arith

-- adding up to a limit
capped : (f : ℕ → ℕ) (m a : ℕ) (xs : List ℕ)
    → fold (λ t x. min (t + f x) m) (min a m) xs ≡ min (fold (λ t x. t + f x) a xs) m
capped f m a [] = refl
capped f m a (x ∷ xs) = ap (λ t. fold (λ t x. min (t + f x) m) t xs) (omega arith) ∙ capped f m (a + f x) xs

-- what adding up the ones to 2 ^ 64 - 1 gives
pub count_capped : (ws : List ℕ) (n : ℕ) → Words64 ws → n ≡ fold (λ total x. min (total + count_ones x) (2 ^ 64 - 1)) 0 ws
    → n ≡ min (unit_count ws) (2 ^ 64 - 1)
count_capped ws n h e = e ∙ capped count_ones (2 ^ 64 - 1) 0 ws ∙ ap (λ n. min n (2 ^ 64 - 1)) (counted ws h)
