-- The entries that bytes hold, one after another.
use Rattle.std.proofs.Common.{◌≡◌, ℕ, suc, ◌-◌, ◌/◌, ◌<◌, ◌≤◌, List, [], ◌∷◌, length, take, drop, ap, arith, length-drop}
use Rattle.std.proofs.lemmas.List.{take_rest}
use Rattle.efi_entries.specs.Entries.{entries, entries_of, guid_of, pointer_of}

pub no_entry : (bs : List ℕ) → length bs < 24 → entries bs ≡ []
unfolding entries
no_entry bs h = let n : length bs / 24 ≡ 0 = omega arith in ap (λ (n : ℕ). entries_of n bs) n

-- the first entry, and then the others
pub first_entry :
    (bs : List ℕ) (g p : ℕ) → 24 ≤ length bs → g ≡ guid_of bs → p ≡ pointer_of bs
    → entries bs ≡ record { guid = g; pointer = p } ∷ entries (take (length bs - 24) (drop 24 bs))
unfolding entries
first_entry bs g p h e f =
    let n : length bs / 24 ≡ suc (length (drop 24 bs) / 24) = omega (arith, length-drop 24 bs) in
    rw (take_rest, e, f) (ap (λ (n : ℕ). entries_of n bs) n)

pub ruleset stepping = (first_entry, no_entry)
