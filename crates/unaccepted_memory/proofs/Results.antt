-- Answers are a success or a fault, and never both.
use Rattle.std.proofs.Common.{◌≡◌, ℕ, ◌⊎◌, Ok, Err, Result, sym, refl, inl, inr, arith}

pub ok_err : {A E B : Type 0} (x : A) (t : E) → ◌≡◌ {A = Result A E} (Ok x) (Err t) → B
ok_err x t e = let z : ◌≡◌ {A = ℕ} 0 1 = cc in absurd (omega arith)

pub err_ok : {A E B : Type 0} (x : A) (t : E) → ◌≡◌ {A = Result A E} (Err t) (Ok x) → B
err_ok x t e = ok_err x t (sym e)

pub same_ok : {A E : Type 0} (x y : A) → ◌≡◌ {A = Result A E} (Ok x) (Ok y) → x ≡ y
same_ok x y e = cc

pub same_err : {A E : Type 0} (x y : E) → ◌≡◌ {A = Result A E} (Err x) (Err y) → x ≡ y
same_err x y e = cc

pub cases_answer : {A E : Type 0} (r : Result A E) → ((c : A) × (r ≡ Ok c)) ⊎ ((t : E) × (r ≡ Err t))
cases_answer (Ok c) = inl (c, refl)
cases_answer (Err t) = inr (t, refl)
