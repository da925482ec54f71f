-- The bytes of a map after a part of them was lent.
use Rattle.std.proofs.Common.{◌≡◌, ℕ, ◌-◌, ◌≤◌, cond, ◌&&◌, ltb, leb, List, ◌++◌, length, get_or, take, drop, replicate, ap, ◌∙◌, rules}
use Rattle.std.proofs.lemmas.List.{places, take-append-drop}
use borrow.Rule.Slice.PartMut.{put_mid}

-- a part that comes back as it was
pub part_back : (L : List ℕ) (i j : ℕ) → put_mid i (j - i) L (take (j - i) (drop i L)) ≡ L
part_back L i j =
    let n = j - i in
    ap (λ (t : List ℕ). take i L ++ t) (take-append-drop n (drop i L)) ∙ take-append-drop i L

-- a part that comes back filled
pub part_filled : (L : List ℕ) (i j k : ℕ) → i ≤ j → j ≤ length L
    → get_or (put_mid i (j - i) L (replicate (length (take (j - i) (drop i L))) 4)) k 0 ≡ cond (leb i k && ltb k j) 4 (get_or L k 0)
part_filled L i j k lo hi = search (rules, places)

pub length_filled : (L : List ℕ) (i j : ℕ) → i ≤ j → j ≤ length L → length (put_mid i (j - i) L (replicate (length (take (j - i) (drop i L))) 4)) ≡ length L
length_filled L i j lo hi = search (rules, places)
