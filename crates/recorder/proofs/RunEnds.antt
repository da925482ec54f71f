-- Where the first run of a part of a list ends in the list.
use Rattle.std.proofs.Common.{◌≡◌, ℕ, ◌+◌, ◌-◌, ◌<◌, ◌≤◌, Bool, List, length, ◌++◌, get_or, ap, ◌∙◌, arith, length-append, length-drop}
use Rattle.std.specs.List.{slice_range, IsChunkByPrefix}
use Rattle.std.proofs.lemmas.Grind.{common_steps}
use Rattle.std.proofs.lemmas.List.{get_or-drop}
use Rattle.recorder.specs.Runs.{RunEnd}

module _ {T : Type 0} (chained : T → T → Bool) where
  -- an item of the part from i on is the item of the list that many places behind i
  item : (xs ys : List T) (i : ℕ) → i ≤ length xs → ys ≡ slice_range xs i (length xs) → (k j : ℕ) (d : T) → i + k ≡ j → get_or ys k d ≡ get_or xs j d
  item xs ys i within part k j d e = ap (λ (l : List T). get_or l k d) part ∙ grind (arith, common_steps, get_or-drop i xs k d, length-drop i xs)

  pub run_end_of : (xs ys a b : List T) (i : ℕ) → i ≤ length xs → ys ≡ slice_range xs i (length xs) → length ys + i ≡ length xs → ys ≡ a ++ b → 0 < length a → IsChunkByPrefix (λ x y. chained y x) ys (length a) → RunEnd chained xs i (i + length a)
  run_end_of xs ys a b i within part long cut some prefix =
      let n : length a ≤ length ys = omega (arith, simp length-append at (ap length cut)) in
      record {
        within = λ h. omega arith;
        some = λ h. omega arith;
        none = λ h. omega arith;
        on = λ k d low high.
            let behind = item xs ys i within part (k - i + 1) (k + 1) d (omega arith) in
            let before = item xs ys i within part (k - i) k d (omega arith) in
            let t = prefix.0 (k - i) d (omega arith) in
            cc;
        ends = λ d low high.
            let behind = item xs ys i within part (length a) (i + length a) d (omega arith) in
            let before = item xs ys i within part (length a - 1) (i + length a - 1) d (omega arith) in
            let t = prefix.1 (omega arith) d in
            cc;
      }
