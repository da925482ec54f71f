-- One bit is set in the powers of two, and in no other number.
use Rattle.std.proofs.Common.{◌≡◌, ℕ, zero, suc, ◌+◌, ◌*◌, ◌/◌, ◌%◌, ◌^◌, ◌<◌, ◌≤◌, true, sym, refl, ap, ◌∙◌, inl, inr, add-zero, one-mul, pow-suc, arith, pow_pos}
use Rattle.std.specs.Int.{is_power_of_two}
use lib.Count.{ones, ones_cat, ones_step}
use Rattle.std.proofs.lemmas.Nat.{zero_from_ones}
use Rattle.std.proofs.lemmas.Bool.{cases_lt, eq-eqb, eqb-true}
use Rattle.efi_table.specs.Laws.{Powers}

one_bit : ones 1 + ones 0 ≡ 1
unfolding ones
one_bit = refl

pub power_is : (k : ℕ) → is_power_of_two (2 ^ k) ≡ true
power_is k = eq-eqb _ _ (ap ones (sym (add-zero (1 * 2 ^ k) ∙ one-mul (2 ^ k))) ∙ ones_cat k 1 0 (pow_pos k) ∙ one_bit)

-- no bit of 0 is set
some_set : (x : ℕ) → ones x ≡ 1 → 0 < x
unfolding ones
some_set zero e = absurd (let o : ◌≡◌ {A = ℕ} 0 1 = e in omega arith)
some_set (suc x) e = omega arith

-- a number with one bit set is a power of two
one_set : (n x : ℕ) → x ≤ n → ones x ≡ 1 → (k : ℕ) × (x ≡ 2 ^ k)
one_set zero x h e = absurd (omega (arith, some_set x e))
one_set (suc n) x h e =
    elim (cases_lt (x % 2) 1) [
      | inl p ↦
          let half = one_set n (x / 2) (omega (arith, some_set x e)) (omega (arith, ones_step x)) in
          (suc half.0, omega (arith, half.1, pow-suc 2 half.0))
      | inr p ↦ let z = zero_from_ones (x / 2) (omega (arith, ones_step x)) in (0, omega arith)
    ]

pub power_of : (x : ℕ) → is_power_of_two x ≡ true → (k : ℕ) × (x ≡ 2 ^ k)
power_of x t = one_set x x (omega arith) (eqb-true _ _ t)

pub power_positive : (x : ℕ) → is_power_of_two x ≡ true → 0 < x
power_positive x t = let p = power_of x t in omega (arith, p.1, pow_pos p.0)

pub powers : Powers
powers = record { only = power_of; all = power_is }
