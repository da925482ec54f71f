-- A test over a range of numbers: what its two answers mean, and how it goes over to another test.
use Rattle.std.proofs.Common.{◌≡◌, ℕ, zero, suc, ◌+◌, ◌<◌, ◌≤◌, Bool, true, false, ◌||◌, refl, ap₂, ⊎_elim, arith}
use Rattle.std.proofs.lemmas.Bool.{false≢true, cases_eq, or_cases, or_parts, or_left, or_right}
use Rattle.host_models.specs.Map.{some_of}

-- a number that passes
pub record Passes (test : ℕ → Bool) (p n : ℕ) : Type 0 where
  pub at : ℕ
  pub from : p ≤ at
  pub under : at < p + n
  pub passes : test at ≡ true

module _ (test : ℕ → Bool) where
  pub some_true : (p n : ℕ) → some_of test p n ≡ true → Passes test p n
  unfolding some_of
  some_true p zero e = absurd (false≢true e)
  some_true p (suc n) e =
      let ih = some_true (p + 1) n in
      ⊎_elim
      (λ here. record { at = p; from = omega arith; under = omega arith; passes = here })
      (λ there. let s = ih there in record { at = s.at; from = omega (arith, s.from); under = omega (arith, s.under); passes = s.passes })
      (or_cases _ _ e)

  pub some_false : (p n : ℕ) → some_of test p n ≡ false → (k : ℕ) → p ≤ k → k < p + n → test k ≡ false
  unfolding some_of
  some_false p zero e k lo hi = absurd (omega arith)
  some_false p (suc n) e k lo hi =
      let ih = some_false (p + 1) n in
      let b = or_parts _ _ e in
      ⊎_elim (λ same. rw (← same) b.0) (λ other. ih b.1 k (omega arith) (omega arith)) (cases_eq p k)

  pub some_at : (p n k : ℕ) → p ≤ k → k < p + n → test k ≡ true → some_of test p n ≡ true
  unfolding some_of
  some_at p zero k lo hi t = absurd (omega arith)
  some_at p (suc n) k lo hi t =
      let ih = some_at (p + 1) n in
      ⊎_elim (λ same. or_left (test p) (some_of test (p + 1) n) (rw same t)) (λ other. or_right _ _ (ih k (omega arith) (omega arith) t)) (cases_eq p k)

-- tests that answer alike, d numbers apart
pub some_like : (test other : ℕ → Bool) (p i n : ℕ) → ((k : ℕ) → k < n → test (p + k) ≡ other (i + k)) → some_of test p n ≡ some_of other i n
unfolding some_of
some_like test other p i zero h = refl
some_like test other p i (suc n) h =
    let ih = some_like test other (p + 1) (i + 1) n (λ k l. let e : p + 1 + k ≡ p + (k + 1) = omega arith in let d : i + 1 + k ≡ i + (k + 1) = omega arith in rw (e, d) (h (k + 1) (omega arith))) in
    let z : test p ≡ other i = let e : p + 0 ≡ p = omega arith in let d : i + 0 ≡ i = omega arith in rw (e, d) at (h 0 (omega arith)) in
    ap₂ ◌||◌ z ih
