-- Lists by their runs.
use Rattle.std.proofs.Common.{◌≡◌, ℕ, suc, ◌+◌, ◌-◌, ◌<◌, ◌≤◌, add-one, List, [], ◌∷◌, ◌++◌, length, take, drop, replicate, get_or, refl, ap, sym, ◌∙◌, subst, arith, length-append, append_assoc, take-append-drop}
use Rattle.std.proofs.lemmas.Grind.{flat_map-append}
use Rattle.std.proofs.lemmas.List.{flat_map_more, length-replicate, take_more, get_or_append_left, get_or-append_right, get_or-replicate, append-nil, nil_from_length}
use Rattle.std.proofs.Math.Nat.{sub_self}
use Rattle.std.proofs.lemmas.List.Elements.{All-push}
use Rattle.std.proofs.lemmas.Bool.{eqb-true, eqb-false}
use Rattle.script.specs.declared.list.Repeated.{Repeated}
use Rattle.std.specs.Prelude.{All, nat_eq}
use Rattle.std.specs.List.{IsChunkByPrefix}
use Rattle.script.specs.Lists.{AreRunsOf, NeighboursDiffer, expanded, times_over}

-- one more run
pub expanded_more : (runs : List Repeated) (i : ℕ) (d : Repeated) → i < length runs → expanded (take (i + 1) runs) ≡ expanded (take i runs) ++ times_over (get_or runs i d)
expanded_more runs i d low = ap expanded (take_more runs i d low) ∙ sym (flat_map_more times_over [] (take i runs) (get_or runs i d))

-- the first runs are no longer than all
pub length-expanded_take-le : (runs : List Repeated) (i : ℕ) → length (expanded (take i runs)) ≤ length (expanded runs)
length-expanded_take-le runs i =
    let whole : expanded runs ≡ expanded (take i runs) ++ expanded (drop i runs) = ap expanded (sym (take-append-drop i runs)) ∙ flat_map-append times_over (take i runs) (drop i runs) in
    omega (arith, ap length whole ∙ length-append (expanded (take i runs)) (expanded (drop i runs)))

-- what a run takes is within the whole
pub expanded_within : (runs : List Repeated) (i : ℕ) (d : Repeated) → i < length runs → length (expanded (take i runs)) + (get_or runs i d).times ≤ length (expanded runs)
expanded_within runs i d low =
    omega (arith, length-expanded_take-le runs (i + 1), ap length (expanded_more runs i d low), length-append (expanded (take i runs)) (times_over (get_or runs i d)), length-replicate (get_or runs i d).times (get_or runs i d).value)

-- the last run is not of the value x
abbrev LastDiffers : List Repeated → ℕ → Type 0
LastDiffers [] x = Unit {0}
LastDiffers (r ∷ []) x = r.value ≡ x → ⊥
LastDiffers (r ∷ s ∷ runs) x = LastDiffers (s ∷ runs) x

-- a run of another value than the last one's may follow
neighbours_differ_push : (runs : List Repeated) (r : Repeated) → NeighboursDiffer runs → LastDiffers runs r.value → NeighboursDiffer (runs ++ r ∷ [])
neighbours_differ_push [] r differ last_differs = tt
neighbours_differ_push (x ∷ []) r differ last_differs = (last_differs, tt)
neighbours_differ_push (x ∷ y ∷ runs) r differ last_differs = (differ.0, neighbours_differ_push (y ∷ runs) r differ.1 last_differs)

-- after a push, the last run is the one pushed
last_differs_push : (runs : List Repeated) (r : Repeated) (x : ℕ) → (r.value ≡ x → ⊥) → LastDiffers (runs ++ r ∷ []) x
last_differs_push [] r x differs = differs
last_differs_push (y ∷ []) r x differs = differs
last_differs_push (y ∷ z ∷ runs) r x differs = last_differs_push (z ∷ runs) r x differs

-- the runs are the front of the list, and rest is what is left
pub record RunsBefore (list : List ℕ) (runs : List Repeated) (rest : List ℕ) : Type 0 where
  pub split : expanded runs ++ rest ≡ list
  pub some : All (λ r. 0 < r.times) runs
  pub longest : NeighboursDiffer runs
  pub next_differs : 0 < length rest → LastDiffers runs (get_or rest 0 0)

-- no run yet
pub runs_before_none : (list rest : List ℕ) → rest ≡ list → RunsBefore list [] rest
runs_before_none list rest same = record { split = same; some = λ k d low. absurd (omega arith); longest = tt; next_differs = λ _. tt }

-- a list of equal neighbours is its first item, some times
constant : (xs : List ℕ) → ((k : ℕ) → suc k < length xs → get_or xs k 0 ≡ get_or xs (suc k) 0) → replicate (length xs) (get_or xs 0 0) ≡ xs
constant [] same = refl
constant (x ∷ []) same = refl
constant (x ∷ y ∷ xs) same =
    let first : x ≡ y = same 0 (omega arith) in
    let rest : replicate (length (y ∷ xs)) y ≡ y ∷ xs = constant (y ∷ xs) (λ k low. same (suc k) (omega arith)) in
    ap (λ l. x ∷ l) (ap (λ v. replicate (length (y ∷ xs)) v) first ∙ rest)

-- the front of a list and what is behind it, as it is cut into chunks of equal values
module _ (chunk before after : List ℕ) (cut : before ≡ chunk ++ after) (nonempty : 0 < length chunk) (prefix : IsChunkByPrefix (λ x y. nat_eq x y) before (length chunk)) where
  in_chunk : (k : ℕ) → k < length chunk → get_or before k 0 ≡ get_or chunk k 0
  in_chunk k low = ap (λ l. get_or l k 0) cut ∙ get_or_append_left chunk after 0 k low

  behind_chunk : get_or before (length chunk) 0 ≡ get_or after 0 0
  behind_chunk = ap (λ l. get_or l (length chunk) 0) cut ∙ get_or-append_right chunk after (length chunk) (length chunk) 0 refl (omega arith) ∙ ap (λ k. get_or after k 0) (sub_self (length chunk))

  chunk_is : replicate (length chunk) (get_or chunk 0 0) ≡ chunk
  chunk_is = constant chunk (λ k low. sym (in_chunk k (omega arith)) ∙ eqb-true (get_or before k 0) (get_or before (k + 1) 0) (prefix.0 k 0 (omega arith)) ∙ in_chunk (k + 1) (omega arith) ∙ ap (λ m. get_or chunk m 0) (add-one k))

  last_is : get_or before (length chunk - 1) 0 ≡ get_or chunk 0 0
  last_is = in_chunk (length chunk - 1) (omega arith) ∙ ap (λ l. get_or l (length chunk - 1) 0) (sym chunk_is) ∙ get_or-replicate (length chunk) (length chunk - 1) (get_or chunk 0 0) 0 (omega arith)

  next_is_other : 0 < length after → get_or chunk 0 0 ≡ get_or after 0 0 → ⊥
  next_is_other more same =
      let room : length chunk < length before = omega (arith, ap length cut ∙ length-append chunk after) in
      eqb-false (get_or before (length chunk - 1) 0) (get_or before (length chunk) 0) (prefix.1 room 0) (last_is ∙ same ∙ sym behind_chunk)

  -- a chunk of equal values, behind which another one comes, is the next run
  pub runs_before_more : (list : List ℕ) (runs : List Repeated) → RunsBefore list runs before → RunsBefore list (runs ++ (record { value = get_or chunk 0 0; times = length chunk }) ∷ []) after
  runs_before_more list runs front =
      let run : Repeated = record { value = get_or chunk 0 0; times = length chunk } in
      let long : 0 < length before = omega (arith, ap length cut ∙ length-append chunk after) in
      let first = in_chunk 0 nonempty in
      record {
        split = ap (λ l. l ++ after) (sym (flat_map_more times_over [] runs run)) ∙ append_assoc (expanded runs) (times_over run) after ∙ ap (λ l. expanded runs ++ l) (ap (λ l. l ++ after) chunk_is ∙ sym cut) ∙ front.split;
        some = All-push (λ (r : Repeated). 0 < r.times) runs run front.some nonempty;
        longest = neighbours_differ_push runs run front.longest (subst (LastDiffers runs) first (front.next_differs long));
        next_differs = λ more. last_differs_push runs run (get_or after 0 0) (next_is_other more);
      }

-- nothing is left: the runs are the list
pub runs_whole : {list rest : List ℕ} {runs : List Repeated} → RunsBefore list runs rest → length rest ≡ 0 → AreRunsOf runs list
runs_whole {list} {rest} {runs} front none = record { whole = sym (append-nil (expanded runs)) ∙ ap (λ l. expanded runs ++ l) (sym (nil_from_length rest none)) ∙ front.split; some = front.some; longest = front.longest }
