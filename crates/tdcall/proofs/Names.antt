-- Each error is named by its class, and no other error is.
use Rattle.std.proofs.Common.{◌≡◌, ℕ, ◌<◌, ◌⊎◌, List, [], ◌∷◌, refl, inr, arith, rules}
use Rattle.std.proofs.lemmas.Grind.{common_steps}
use Rattle.tdcall.specs.declared.TdCallError.{TdCallError}
use Rattle.tdcall.specs.declared.TdCallError.TheVariants.{Other}
use Rattle.tdcall.specs.Statuses.{number, errors, among, named, status_of, class_of, Named}

-- the whole table at once
back : (e : TdCallError) → named (number e) ≡ e
back e = search rules

positive : (e : TdCallError) → 0 < number e
positive e = search rules

class_back : (e : TdCallError) → class_of (status_of e) ≡ number e
class_back e = omega arith

forth : (es : List TdCallError) (c : ℕ) → (number (among es c) ≡ c) ⊎ (among es c ≡ Other)
forth [] c = inr refl
forth (e ∷ es) c = grind (arith, common_steps, forth es c)

pub all_named : Named
all_named = record {
  back = back;
  forth = forth errors;
  said = λ e. grind (arith, common_steps, back e, positive e, class_back e);
}
