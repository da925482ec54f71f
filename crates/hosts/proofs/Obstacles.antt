-- The highest obstacle in a block gives the reply of the map.
use Rattle.std.proofs.Common.{◌≡◌, ◌≢◌, ℕ, zero, suc, ◌+◌, ◌-◌, ◌/◌, ◌%◌, ◌^◌, ◌<◌, ◌≤◌, min, max, Bool, true, false, cond, not, ◌&&◌, ◌||◌, eqb, ltb, leb, ◌⊎◌, List, length, get_or, take, drop, Some, None, Option, Ok, Err, Result, sym, refl, ap, ◌∙◌, ap₂, inl, inr, ⊎_elim, arith, length-take}
use native.Mathlib.Nat.{one-le-pow}
use Rattle.std.proofs.lemmas.List.{get_or-take, get_or-drop, length-drop}
use Rattle.std.proofs.lemmas.List.FromFn.{fill_by_all}
use Rattle.std.proofs.lemmas.Bool.{cases_eq, cases_Bool, and_cases, and_left, and_right, leb-false, and_parts, leb-true, or_from, or_left, or_right, not_from_true, not_from_false, eq-eqb, ne_eqb, lt-ltb, le-ltb, le-leb, lt-leb, cases_lt}
use Rattle.tdcall.specs.declared.TdCallError.TheVariants.{TdxOperandInvalid, TdxOperandAddrRangeError, TdxPageAlreadyAccepted, TdxPageSizeMismatch}
use Rattle.tdcall.specs.declared.TdCallError.{TdCallError}
use Rattle.tdcall.specs.Statuses.{status_of, encoded}
use Rattle.host.specs.Pages.{Page, absent, pending, accepted, accepting, size, covers}
use Rattle.host_models.specs.Map.{page_of, level_of, byte_of, map_pages, map_level, is_absent, is_accepted, some_of, map_reply, map_next, block_accepted, Valid}
use Rattle.host_models.proofs.Some.{some_at, some_like}
use Rattle.host_models.proofs.Map.{byte_in, byte_below, byte_past, next_zero, next_other}
use Rattle.std.specs.declared.ops.Range.{Range}
use Rattle.hosts.specs.Blocks.{block_bytes}
use Rattle.host.specs.Levels.{level_number}
use Rattle.host.specs.declared.page_level.PageLevel.{PageLevel}
use Rattle.host.specs.declared.page_level.PageLevel.TheVariants.{L1_4K, L2_2M, L3_1G}
use Rattle.hosts.specs.declared.map.MapPage.{MapPage}
use Rattle.hosts.specs.declared.map.MapPage.TheVariants as says
use Rattle.hosts.specs.declared.map.Obstacle.{Obstacle}
use Rattle.hosts.specs.declared.map.Obstacle.TheVariants as way
use Rattle.hosts.specs.MapPages.{map_page, obstacle_to, rank, weight, highest, error_for}

-- the reply that an obstacle of some weight gives
abbrev reply_to : ℕ → ℕ
reply_to o =
    cond (leb 3 o) (status_of TdxOperandAddrRangeError)
    (cond (leb 2 o) (status_of TdxPageAlreadyAccepted) (cond (leb 1 o) (status_of TdxPageSizeMismatch) 0))

-- what a map's byte says of its page is what the code reads
by_byte : (Q : Page → ℕ → MapPage → Type 0) → Q pending 0 (says.Pending L1_4K) → Q pending 1 (says.Pending L2_2M) → Q pending 2 (says.Pending L3_1G)
    → ((n : ℕ) → Q accepted n says.Accepted) → ((n : ℕ) → Q absent n says.Absent) → (b : ℕ) → Q (page_of b) (level_of b) (map_page b)
by_byte Q one two three whole none b =
    ⊎_elim (λ (e : b ≡ 1). rw e one)
    (λ (n : b ≢ 1). ⊎_elim (λ (e : b ≡ 2). rw e two)
    (λ (m : b ≢ 2). ⊎_elim (λ (e : b ≡ 3). rw e three)
    (λ (k : b ≢ 3). ⊎_elim (λ (e : b ≡ 4). rw e (whole 3))
    (λ (j : b ≢ 4). rw (ne_eqb b 1 n, ne_eqb b 2 m, ne_eqb b 3 k, ne_eqb b 4 j, out n m k j) (none (level_of b)))
    (cases_eq b 4)) (cases_eq b 3)) (cases_eq b 2)) (cases_eq b 1)
  where
    out : b ≢ 1 → b ≢ 2 → b ≢ 3 → b ≢ 4 → (leb 1 b && leb b 3) ≡ false
    out n m k j = ⊎_elim (λ h. and_left _ _ (lt-leb 1 b h)) (λ h. and_right _ _ (lt-leb b 3 (omega (arith, n, m, k, j)))) (cases_lt b 1)

module _ (l b : ℕ) where
  absent_by : is_absent (page_of b) ≡ leb 3 (weight l b)
  absent_by = by_byte (λ p n m. is_absent p ≡ leb 3 (rank (obstacle_to l m))) (smaller (ltb 0 l)) (smaller (ltb 1 l)) (smaller (ltb 2 l)) (λ n. refl) (λ n. refl) b
    where
      smaller : (t : Bool) → false ≡ leb 3 (rank (cond t (Some way.MappedSmaller) None))
      smaller = elim [ true ↦ refl | false ↦ refl ]

  accepted_by : (is_absent (page_of b) || is_accepted (page_of b)) ≡ leb 2 (weight l b)
  accepted_by =
      by_byte (λ p n m. (is_absent p || is_accepted p) ≡ leb 2 (rank (obstacle_to l m))) (smaller (ltb 0 l)) (smaller (ltb 1 l)) (smaller (ltb 2 l)) (λ n. refl) (λ n. refl) b
    where
      smaller : (t : Bool) → false ≡ leb 2 (rank (cond t (Some way.MappedSmaller) None))
      smaller = elim [ true ↦ refl | false ↦ refl ]

  below_by : (is_absent (page_of b) || (is_accepted (page_of b) || ltb (level_of b) l)) ≡ leb 1 (weight l b)
  below_by =
      by_byte (λ p n m. (is_absent p || (is_accepted p || ltb n l)) ≡ leb 1 (rank (obstacle_to l m))) (smaller (ltb 0 l)) (smaller (ltb 1 l)) (smaller (ltb 2 l)) (λ n. refl) (λ n. refl) b
    where
      smaller : (t : Bool) → t ≡ leb 1 (rank (cond t (Some way.MappedSmaller) None))
      smaller = elim [ true ↦ refl | false ↦ refl ]

-- either of two tests
or_swap : (a b x y : Bool) → ((a || b) || (x || y)) ≡ ((a || x) || (b || y))
or_swap true b x y = refl
or_swap false true true y = refl
or_swap false true false y = refl
or_swap false false x y = refl

some_or : (test other : ℕ → Bool) (p n : ℕ) → some_of (λ k. test k || other k) p n ≡ (some_of test p n || some_of other p n)
unfolding some_of
some_or test other p zero = refl
some_or test other p (suc n) =
    ap (λ (x : Bool). (test p || other p) || x) (some_or test other (p + 1) n)
    ∙ or_swap (test p) (other p) (some_of test (p + 1) n) (some_of other (p + 1) n)

leb_max : (k x y : ℕ) → (leb k x || leb k y) ≡ leb k (max x y)
leb_max k x y =
    ⊎_elim
    (λ h. ⊎_elim
    (λ j. or_from _ _ (lt-leb k x h) (lt-leb k y j) ∙ sym (lt-leb k (max x y) (omega arith)))
    (λ j. or_right _ _ (le-leb k y j) ∙ sym (le-leb k (max x y) (omega arith)))
    (cases_lt y k))
    (λ h. or_left _ _ (le-leb k x h) ∙ sym (le-leb k (max x y) (omega arith)))
    (cases_lt x k)

some_highest : (l : ℕ) (L : List ℕ) (k i n : ℕ) → 0 < k → some_of (λ j. leb k (weight l (get_or L j 0))) i n ≡ leb k (highest l L i n)
unfolding some_of highest
some_highest l L k i zero h = sym (lt-leb k 0 h)
some_highest l L k i (suc n) h =
    ap (λ (x : Bool). leb k (weight l (get_or L i 0)) || x) (some_highest l L k (i + 1) n h)
    ∙ leb_max k (weight l (get_or L i 0)) (highest l L (i + 1) n)

leb_like : (x y u v : ℕ) → (x ≤ y → u ≤ v) → (u ≤ v → x ≤ y) → leb x y ≡ leb u v
leb_like x y u v to back =
    ⊎_elim
    (λ h. lt-leb x y h ∙ sym (lt-leb u v (⊎_elim (λ k. k) (λ k. absurd (omega (arith, back k))) (cases_lt v u))))
    (λ h. le-leb x y h ∙ sym (le-leb u v (to h)))
    (cases_lt y x)

-- one byte more of a pass over them
module _ (i e : ℕ) (l : ℕ) (L : List ℕ) where
  pub highest_more : i < e → highest l L i (e - i) ≡ max (weight l (get_or L i 0)) (highest l L (i + 1) (e - (i + 1)))
  unfolding highest
  highest_more h = let left : e - i ≡ suc (e - (i + 1)) = omega arith in rw left

  pub highest_none : e ≤ i → highest l L i (e - i) ≡ 0
  unfolding highest
  highest_none h = let left : e - i ≡ 0 = omega arith in rw left

-- a pass over a part of the bytes is one over their places in the whole
pub highest_like : (l : ℕ) (L M : List ℕ) (i j n : ℕ) → ((k : ℕ) → k < n → get_or L (i + k) 0 ≡ get_or M (j + k) 0) → highest l L i n ≡ highest l M j n
unfolding highest
highest_like l L M i j zero h = refl
highest_like l L M i j (suc n) h =
    let first : get_or L i 0 ≡ get_or M j 0 = let z : i + 0 ≡ i = omega arith in let y : j + 0 ≡ j = omega arith in rw (z, y) at (h 0 (omega arith)) in
    let rest = highest_like l L M (i + 1) (j + 1) n (λ k b. let e : i + 1 + k ≡ i + (k + 1) = omega arith in let d : j + 1 + k ≡ j + (k + 1) = omega arith in rw (e, d) (h (k + 1) (omega arith))) in
    ap₂ max (ap (weight l) first) rest

-- no obstacle is above the last
rank_low : (o : Option Obstacle) → rank o ≤ 3
rank_low None = omega arith
rank_low (Some way.MappedSmaller) = omega arith
rank_low (Some way.Accepted) = omega arith
rank_low (Some way.Absent) = omega arith

pub highest_low : (l : ℕ) (L : List ℕ) (i n : ℕ) → highest l L i n ≤ 3
unfolding highest
highest_low l L i zero = omega arith
highest_low l L i (suc n) =
    let first : weight l (get_or L i 0) ≤ 3 = rank_low (obstacle_to l (map_page (get_or L i 0))) in
    omega (arith, first, highest_low l L (i + 1) n)

-- the first that fits, where each test is joined to those before it
first_fits : (x y z a b c : Bool) → x ≡ a → (x || y) ≡ b → (x || (y || z)) ≡ c → (u v w : ℕ) → cond a u (cond b v (cond c w 0)) ≡ cond x u (cond y v (cond z w 0))
first_fits true y z a b c e d k u v w = rw (← e)
first_fits false true z a b c e d k u v w = rw (← e, ← d)
first_fits false false z a b c e d k u v w = rw (← e, ← d, ← k)

module _ (f c : ℕ) (L : List ℕ) (l a : ℕ) where
  abbrev page : ℕ
  page = a / 4096

  abbrev span : ℕ
  span = 512 ^ l

  invalid_test : Valid l a → (ltb 2 l || not (eqb (a % size l) 0)) ≡ false
  invalid_test v = or_from _ _ (le-ltb 2 l v.low) (not_from_true _ (eq-eqb _ _ v.aligned))

  pub reply_level : 2 < l → status_of TdxOperandInvalid ≡ map_reply f c L (accepting l a)
  unfolding map_reply
  reply_level h = rw (lt-ltb 2 l h)

  pub reply_address : (a % size l ≡ 0 → ⊥) → status_of TdxOperandInvalid ≡ map_reply f c L (accepting l a)
  unfolding map_reply
  reply_address h = rw (or_right (ltb 2 l) (not (eqb (a % size l) 0)) (not_from_false _ (ne_eqb _ _ h)))

  -- a page outside
  absent_at : (p : ℕ) → page ≤ p → p < page + span → byte_of f c L p ≡ 0 → some_of (λ p. is_absent (map_pages f c L p)) page span ≡ true
  absent_at p lo hi e = some_at (λ p. is_absent (map_pages f c L p)) page span p lo hi (ap (λ (b : ℕ). is_absent (page_of b)) e)

  outside_at : 0 < span → (page < f) ⊎ (min c (length L) < page - f + span) → some_of (λ p. is_absent (map_pages f c L p)) page span ≡ true
  outside_at some h =
      ⊎_elim
      (λ u. absent_at page (omega arith) (omega arith) (byte_below f c L page u))
      (λ u. ⊎_elim
      (λ v. absent_at page (omega arith) (omega arith) (byte_below f c L page v))
      (λ v. absent_at (page + (span - 1)) (omega arith) (omega arith) (byte_past f c L (page + (span - 1)) (omega arith)
      (⊎_elim (λ w. inl (omega arith)) (λ w. inr (omega arith)) (cases_lt c (page - f + span)))))
      (cases_lt page f))
      h

  pub reply_outside : Valid l a → 0 < span → (page < f) ⊎ (min c (length L) < page - f + span) → status_of TdxOperandAddrRangeError ≡ map_reply f c L (accepting l a)
  unfolding map_reply
  reply_outside v some h = rw (invalid_test v, outside_at some h)

  -- all pages inside
  module _ (over : f ≤ page) (under : page - f + span ≤ min c (length L)) where
    at : (k : ℕ) → k < span → byte_of f c L (page + k) ≡ get_or L (page - f + k) 0
    at k h = let e : page + k - f ≡ page - f + k = omega arith in byte_in f c L (page + k) (omega arith) (omega arith) ∙ ap (λ i. get_or L i 0) e

    same : (test : ℕ → Bool) → some_of (λ p. test (byte_of f c L p)) page span ≡ some_of (λ i. test (get_or L i 0)) (page - f) span
    same test = some_like (λ p. test (byte_of f c L p)) (λ i. test (get_or L i 0)) page (page - f) span (λ k h. ap test (at k h))

    highest_by : (k : ℕ) (test : ℕ → Bool) → 0 < k → ((b : ℕ) → test b ≡ leb k (weight l b))
        → some_of (λ p. test (byte_of f c L p)) page span ≡ leb k (highest l L (page - f) span)
    highest_by k test h e =
        same test
        ∙ some_like (λ i. test (get_or L i 0)) (λ i. leb k (weight l (get_or L i 0))) (page - f) (page - f) span (λ j _. e (get_or L (page - f + j) 0))
        ∙ some_highest l L k (page - f) span h

    pub reply_inside : Valid l a → reply_to (highest l L (page - f) span) ≡ map_reply f c L (accepting l a)
    unfolding map_reply
    reply_inside v =
        rw (invalid_test v)
        (first_fits
        (some_of (λ p. is_absent (map_pages f c L p)) page span) (some_of (λ p. is_accepted (map_pages f c L p)) page span) (some_of (λ p. ltb (map_level f c L p) l) page span)
        (leb 3 (highest l L (page - f) span)) (leb 2 (highest l L (page - f) span)) (leb 1 (highest l L (page - f) span))
        (highest_by 3 (λ b. is_absent (page_of b)) (omega arith) (absent_by l))
        (sym (some_or (λ p. is_absent (map_pages f c L p)) (λ p. is_accepted (map_pages f c L p)) page span)
        ∙ highest_by 2 (λ b. is_absent (page_of b) || is_accepted (page_of b)) (omega arith) (accepted_by l))
        (ap (λ (x : Bool). some_of (λ p. is_absent (map_pages f c L p)) page span || x) (sym (some_or (λ p. is_accepted (map_pages f c L p)) (λ p. ltb (map_level f c L p) l) page span))
        ∙ sym (some_or (λ p. is_absent (map_pages f c L p)) (λ p. is_accepted (map_pages f c L p) || ltb (map_level f c L p) l) page span)
        ∙ highest_by 1 (λ b. is_absent (page_of b) || (is_accepted (page_of b) || ltb (level_of b) l)) (omega arith) (below_by l))
        (status_of TdxOperandAddrRangeError) (status_of TdxPageAlreadyAccepted) (status_of TdxPageSizeMismatch))

  -- the bytes of the block, by their numbers
  covers_is : (k : ℕ) → f ≤ page → (leb (page - f) k && ltb k (page - f + span)) ≡ covers l a (f + k)
  covers_is k over =
      ap₂ ◌&&◌ (leb_like (page - f) k page (f + k) (λ h. omega arith) (λ h. omega arith))
      (leb_like (suc k) (page - f + span) (suc (f + k)) (page + span) (λ h. omega arith) (λ h. omega arith))

  pub written : (M : List ℕ) → f ≤ page → length M ≡ length L
      → ((k : ℕ) → get_or M k 0 ≡ cond (leb (page - f) k && ltb k (page - f + span)) 4 (get_or L k 0)) → M ≡ block_accepted f l a L
  written M over e h =
      fill_by_all (λ i. cond (covers l a (f + i)) 4 (get_or L i 0)) M (length L) 0 e
      (λ k _. h k ∙ ap (λ (x : Bool). cond x 4 (get_or L k 0)) (covers_is k over))

-- the bytes of a block that a map has, and those of one that it has not
module _ (f c m p n : ℕ) where
  pub record Inside (i e : ℕ) : Type 0 where
    pub over : f ≤ p
    pub under : p - f + n ≤ min c m
    pub from : i ≡ p - f
    pub end : e ≡ p - f + n

  pub block_some : (r : Range ℕ) → block_bytes f c m p n ≡ Some r → Inside r.start r.end
  block_some r h =
      elim (cases_Bool (leb f p && leb (p - f + n) (min c m))) [
        | inl t ↦
            let b = and_parts (leb f p) (leb (p - f + n) (min c m)) t in
            let is : ◌≡◌ {A = Option (Range ℕ)} (Some (record { start = p - f; end = p - f + n })) (Some r) = rw t at h in
            record {
              over = leb-true f p b.0;
              under = leb-true (p - f + n) (min c m) b.1;
              from = cc;
              end = cc;
            }
        | inr t ↦ let is : ◌≡◌ {A = Option (Range ℕ)} None (Some r) = rw t at h in let z : ◌≡◌ {A = ℕ} 0 1 = cc in absurd (omega arith)
      ]

  pub block_none : block_bytes f c m p n ≡ None → (p < f) ⊎ (min c m < p - f + n)
  block_none h =
      elim (cases_Bool (leb f p && leb (p - f + n) (min c m))) [
        | inl t ↦ let is : ◌≡◌ {A = Option (Range ℕ)} (Some (record { start = p - f; end = p - f + n })) None = rw t at h in let z : ◌≡◌ {A = ℕ} 0 1 = cc in absurd (omega arith)
        | inr t ↦ ⊎_elim (λ x. inl (leb-false f p x)) (λ x. inr (leb-false (p - f + n) (min c m) x)) (and_cases (leb f p) (leb (p - f + n) (min c m)) t)
      ]

-- the answers of one request, by the way that it takes
abbrev pub told : Option Obstacle → Result (Unit {0}) TdCallError
told None = Ok tt
told (Some o) = Err (error_for o)

told_by : (o : Option Obstacle) → encoded (told o) ≡ reply_to (rank o)
told_by None = refl
told_by (Some way.MappedSmaller) = refl
told_by (Some way.Accepted) = refl
told_by (Some way.Absent) = refl

-- an obstacle is no success
error_some : (w : Obstacle) → status_of (error_for w) ≡ 0 → ⊥
error_some way.MappedSmaller e = omega arith
error_some way.Accepted e = omega arith
error_some way.Absent e = omega arith

pub level_low : (p : PageLevel) → level_number p ≤ 2
level_low L1_4K = omega arith
level_low L2_2M = omega arith
level_low L3_1G = omega arith

pub power_some : (l : ℕ) → 0 < 512 ^ l
power_some l = omega (arith, one-le-pow l 512 (omega arith))

-- a pass over the bytes of a block, lent as a slice of their own
pub highest_part : (l : ℕ) (L : List ℕ) (i j : ℕ) → i ≤ j → j ≤ length L
    → highest l (take (j - i) (drop i L)) 0 (length (take (j - i) (drop i L))) ≡ highest l L i (j - i)
highest_part l L i j lo hi =
    let many : length (take (j - i) (drop i L)) ≡ j - i = omega (arith, length-take (j - i) (drop i L), length-drop i L) in
    rw many (highest_like l (take (j - i) (drop i L)) L 0 i (j - i) (λ k h. let zero_more : 0 + k ≡ k = omega arith in rw zero_more (get_or-take (j - i) (drop i L) k 0 h ∙ get_or-drop i L k 0)))

-- the two clauses of a request, by the way that it takes
module _ (f c : ℕ) (L : List ℕ) (l a : ℕ) where
  -- an error leaves the bytes
  pub refused : (e : TdCallError) → status_of e ≡ map_reply f c L (accepting l a) → (status_of e ≡ 0 → ⊥)
      → (encoded (Err e) ≡ map_reply f c L (accepting l a)) × (L ≡ map_next f c L (accepting l a))
  refused e is some = (is, sym (next_other f c L l a (λ z. some (is ∙ z))))

  -- a block that lies in the map at the places i to j - 1 of its bytes, and what stands in its way
  pub record Laid (i j : ℕ) (o : Option Obstacle) : Type 0 where
    pub valid : Valid l a
    pub block : Inside f c (length L) (a / 4096) (512 ^ l) i j
    pub is : rank o ≡ highest l L i (j - i)

  pub laid : (p : PageLevel) (s n : ℕ) (r : Range ℕ) (o : Option Obstacle) → level_number p ≡ l → s ≡ size (level_number p) → a % s ≡ 0 → n ≡ 512 ^ level_number p
      → block_bytes f c (length L) (a / 4096) n ≡ Some r
      → rank o ≡ highest (level_number p) (take (r.end - r.start) (drop r.start L)) 0 (length (take (r.end - r.start) (drop r.start L))) → Laid r.start r.end o
  laid p s n r o level size_is aligned power some is =
      let block : Inside f c (length L) (a / 4096) (512 ^ l) r.start r.end = rw (power, level) at (block_some f c (length L) (a / 4096) n r some) in
      record {
        valid = record { low = rw level at (level_low p); aligned = rw (size_is, level) at aligned };
        block = block;
        is = rw level at (is ∙ highest_part (level_number p) L r.start r.end (omega (arith, block.from, block.end)) (omega (arith, block.end, block.under)));
      }

  module _ (i j : ℕ) (o : Option Obstacle) (t : Laid i j o) where
    answered : encoded (told o) ≡ map_reply f c L (accepting l a)
    answered =
        let block = t.block in
        let many : j - i ≡ 512 ^ l = omega (arith, block.from, block.end) in
        let bytes : highest l L i (j - i) ≡ highest l L (a / 4096 - f) (512 ^ l) = rw (many, block.from) in
        told_by o ∙ ap reply_to (t.is ∙ bytes) ∙ reply_inside f c L l a block.over block.under t.valid

    pub found : (w : Obstacle) → o ≡ Some w → (status_of (error_for w) ≡ map_reply f c L (accepting l a)) × (L ≡ map_next f c L (accepting l a))
    found w e = refused (error_for w) (rw e at answered) (error_some w)

    pub granted : o ≡ None → (M : List ℕ) → length M ≡ length L → ((k : ℕ) → get_or M k 0 ≡ cond (leb i k && ltb k j) 4 (get_or L k 0))
        → (0 ≡ map_reply f c L (accepting l a)) × (M ≡ map_next f c L (accepting l a))
    granted none M e h =
        let zero_is : 0 ≡ map_reply f c L (accepting l a) = rw none at answered in
        (zero_is, written f c L l a M t.block.over e (rw (t.block.from, t.block.end) at h) ∙ sym (next_zero f c L l a (sym zero_is)))
