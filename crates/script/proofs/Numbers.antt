-- What is printed is read back.
use Rattle.std.proofs.Common.{◌≡◌, ℕ, ◌<◌, ◌^◌, false, List, [], ◌∷◌, refl, sym, subst, arith, nat_eq}
use Rattle.std.proofs.Math.Bool.{and-false}
use Rattle.std.proofs.lemmas.Bool.{ne_eqb}
use Rattle.std.proofs.lemmas.Str.Parse.{digit_from_value}
use Rattle.std.proofs.lemmas.Fmt.{digits_is_IsNumeral, decimal_is_IsNumeral}
use Rattle.std.specs.Char.{digit_value}
use Rattle.std.specs.Fmt.{decimal}
use Rattle.std.specs.Str.Parse.{AllDigits}
use Rattle.script.specs.Numbers.{ReadsBack, IsNumber, is_hexadecimal, hexadecimal, number_of}

hexadecimal_back : (n : ℕ) → n < 2 ^ 64 → IsNumber (hexadecimal n) × (number_of (hexadecimal n) ≡ n)
hexadecimal_back n small =
    let wide : n < 16 ^ 64 = omega arith in
    let numeral = digits_is_IsNumeral 16 false (omega arith) (omega arith) n wide in
    ((numeral.0, subst (λ (m : ℕ). m < 2 ^ 64) (sym numeral.1) small), numeral.1)

-- the second of decimal digits is no x
not_x : (d : ℕ) → digit_value d < 10 → nat_eq 120 d ≡ false
not_x d small = let digit = digit_from_value d small in ne_eqb 120 d (λ same. omega (arith, digit, same))

-- so they do not begin with 0x
not_marked : (w : List ℕ) → AllDigits 10 w → is_hexadecimal w ≡ false
not_marked [] all = refl
not_marked (c ∷ []) all = and-false (nat_eq 48 c)
not_marked (c ∷ d ∷ w) all = let differs : nat_eq 120 d ≡ false = not_x d all.1.0 in rw differs (and-false (nat_eq 48 c))

decimal_back : (n : ℕ) → n < 2 ^ 64 → IsNumber (decimal n) × (number_of (decimal n) ≡ n)
decimal_back n small =
    let numeral = decimal_is_IsNumeral n small in
    let plain = not_marked (decimal n) numeral.0.1 in
    rw plain ((numeral.0, subst (λ (m : ℕ). m < 2 ^ 64) (sym numeral.1) small), numeral.1)

pub reads_back : ReadsBack
reads_back = record { hexadecimal = hexadecimal_back; decimal = decimal_back }
