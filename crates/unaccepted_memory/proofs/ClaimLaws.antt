-- Lists of open claims.
use Rattle.std.proofs.Common.{◌≡◌, ℕ, ◌⊎◌, List, ◌∷◌, sym, refl, subst, inl, inr}
use mathlib.Core.List.Memᴰ
use Rattle.efi_table.specs.declared.layout.Range.{Range}
use Rattle.unaccepted_memory.specs.History.{Without, top, below}
use Rattle.unaccepted_memory.specs.Promises.{◌∈◌, Holds, Claimed, Disjoint}

pub without_self : (c : Range) {cs ds : List Range} → Without c cs ds → c ∈ cs
without_self c top = Memᴰ.head refl
without_self c (below w) = Memᴰ.tail (without_self c w)

pub without_rest : (c : Range) {cs ds : List Range} → Without c cs ds → (d : Range) → d ∈ ds → d ∈ cs
without_rest c top d h = Memᴰ.tail h
without_rest c (below w) d (Memᴰ.head e) = Memᴰ.head e
without_rest c (below w) d (Memᴰ.tail h) = Memᴰ.tail (without_rest c w d h)

pub without_cases : (c : Range) {cs ds : List Range} → Without c cs ds → (d : Range) → d ∈ cs → (d ≡ c) ⊎ (d ∈ ds)
without_cases c top d (Memᴰ.head e) = inl e
without_cases c top d (Memᴰ.tail h) = inr h
without_cases c (below w) d (Memᴰ.head e) = inr (Memᴰ.head e)
without_cases c (below {d = x} {ds = ds} w) d (Memᴰ.tail h) = go (without_cases c w d h)
  where
    go : (d ≡ c) ⊎ (d ∈ ds) → (d ≡ c) ⊎ (d ∈ (x ∷ ds))
    go (inl e) = inl e
    go (inr k) = inr (Memᴰ.tail k)

-- one claim taken out and put back
pub put_back : (c : Range) {cs ds rest : List Range} → Without c cs rest → Without c ds rest → (d : Range) → d ∈ cs → d ∈ ds
put_back c {cs} {ds} {rest} x y d i = go (without_cases c x d i)
  where
    go : (d ≡ c) ⊎ (d ∈ rest) → d ∈ ds
    go (inl q) = subst (λ (z : Range). z ∈ ds) (sym q) (without_self c y)
    go (inr j) = without_rest c y d j

-- claims that have no address in common, with one taken out
pub disjoint_out : (c : Range) {cs ds : List Range} → Without c cs ds → Disjoint cs → Disjoint ds × ((a : ℕ) → Holds c a → Claimed ds a → ⊥)
disjoint_out c top d = (d.1, d.0)
disjoint_out c (below {d = x} {cs = cs} {ds = ds} w) d =
    let r = disjoint_out c w d.1 in
    ((λ a i j. d.0 a i (j.0, without_rest c w j.0 j.1, j.2), r.0), λ a i j. apart a i (r.1 a i) j)
  where
    apart : (a : ℕ) → Holds c a → (Claimed ds a → ⊥) → Claimed (x ∷ ds) a → ⊥
    apart a i f (y, Memᴰ.head e, k) = d.0 a (subst (λ (z : Range). Holds z a) e k) (c, without_self c w, i)
    apart a i f (y, Memᴰ.tail j, k) = f (y, j, k)

-- and with one put in
pub disjoint_in : (c : Range) {cs ds : List Range} → Without c cs ds → Disjoint ds → ((a : ℕ) → Holds c a → Claimed ds a → ⊥) → Disjoint cs
disjoint_in c top d f = (f, d)
disjoint_in c (below {d = x} {cs = cs} {ds = ds} w) d f = (
  λ a i j. apart a i j.0 j.2 (without_cases c w j.0 j.1),
  disjoint_in c w d.1 (λ a i j. f a i (j.0, Memᴰ.tail j.1, j.2)),
)
  where
    apart : (a : ℕ) → Holds x a → (y : Range) → Holds y a → (y ≡ c) ⊎ (y ∈ ds) → ⊥
    apart a i y k (inl e) = f a (subst (λ (z : Range). Holds z a) e k) (x, Memᴰ.head refl, i)
    apart a i y k (inr j) = d.0 a i (y, j, k)
