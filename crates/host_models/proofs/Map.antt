-- A map tells and leaves what its law says, and it is sound.
use Rattle.std.proofs.Common.{◌≡◌, ℕ, ◌+◌, ◌-◌, ◌/◌, ◌%◌, ◌^◌, ◌<◌, ◌≤◌, Bool, true, false, cond, not, ◌||◌, eqb, ltb, ◌⊎◌, List, [], length, get_or, take, drop, sym, refl, ap, ◌∙◌, inl, inr, ⊎_elim, arith, length-take}
use mathlib.Core.Path.{fun_ext}
use Rattle.std.proofs.lemmas.List.FromFn.{get_or-map-range_with_len, length-map-range_with_len}
use Rattle.std.proofs.lemmas.List.{get_or-take, get_or-drop, get_or_past, length-drop, ext_get_or}
use Rattle.std.proofs.lemmas.Bool.{true≢false, cases_eq, cases_lt, cases_Bool, and_parts, and_from, or_cases, or_parts, not-true, not-false, le-leb, lt-leb, leb-true, ltb-true, ltb-false, eqb-true, eqb-false, eq-eqb, ne_eqb}
use Rattle.tdcall.specs.declared.TdCallError.TheVariants.{TdxOperandInvalid, TdxOperandAddrRangeError, TdxPageAlreadyAccepted, TdxPageSizeMismatch}
use Rattle.tdcall.specs.Statuses.{class_of, number, status_of}
use Rattle.host.proofs.Soundness.{sounds_by, taken_none, unrolled_now, unrolled_later}
use Rattle.host.specs.Pages.{Page, absent, pending, accepted, Pages, Request, accepting, size, covers, taken}
use Rattle.host.specs.States.{received}
use Rattle.host.specs.Laws.{SoundAccept, Sound, Sounds}
use Rattle.host.proofs.Layers.{same_state}
use Rattle.host_models.specs.Map.{page_of, byte_of, map_pages, map_level, is_absent, is_accepted, some_page, map_reply, block_accepted, map_next, map_replies, map_state, Valid, Tells, invalid, missing, already, smaller, success, Leaves, MapTells, MapLeaves, MapLaw}
use Rattle.host_models.proofs.Some.{some_true, some_false}

absent_is : (x : Page) → is_absent x ≡ true → x ≡ absent
absent_is absent e = refl
absent_is pending e = absurd (true≢false (sym e))
absent_is accepted e = absurd (true≢false (sym e))

accepted_is : (x : Page) → is_accepted x ≡ true → x ≡ accepted
accepted_is absent e = absurd (true≢false (sym e))
accepted_is pending e = absurd (true≢false (sym e))
accepted_is accepted e = refl

pending_is : (x : Page) → is_absent x ≡ false → is_accepted x ≡ false → x ≡ pending
pending_is absent e k = absurd (true≢false e)
pending_is pending e k = refl
pending_is accepted e k = absurd (true≢false k)

not_absent : (x : Page) → is_absent x ≡ false → x ≡ absent → ⊥
not_absent x e k = true≢false (ap is_absent (sym k) ∙ e)

not_both : absent ≡ pending → ⊥
not_both e = let z : ◌≡◌ {A = ℕ} 0 1 = cc in omega arith

-- the pages of a block, by their numbers
module _ (l a p : ℕ) where
  pub within : covers l a p ≡ true → (a / 4096 ≤ p) × (p < a / 4096 + 512 ^ l)
  within t = let b = and_parts _ _ t in (leb-true _ _ b.0, ltb-true _ _ b.1)

  pub covered : a / 4096 ≤ p → p < a / 4096 + 512 ^ l → covers l a p ≡ true
  covered lo hi = and_from _ _ (le-leb _ _ lo) (le-leb _ _ hi)

-- which reply fits first, and what that tells
module _ (P : Pages) (M : ℕ → ℕ) (l a : ℕ) where
  found : (test : ℕ → Bool) → some_page test l a ≡ true → (p : ℕ) × (covers l a p ≡ true) × (test p ≡ true)
  found test e = let s = some_true test (a / 4096) (512 ^ l) e in (s.at, covered l a s.at s.from s.under, s.passes)

  none : (test : ℕ → Bool) → some_page test l a ≡ false → (p : ℕ) → covers l a p ≡ true → test p ≡ false
  none test e p t = let b = within l a p t in some_false test (a / 4096) (512 ^ l) e p b.0 b.1

  not_valid : (ltb 2 l || not (eqb (a % size l) 0)) ≡ true → Valid l a → ⊥
  not_valid e v =
      ⊎_elim (λ h. omega (arith, ltb-true 2 l h, v.low)) (λ h. eqb-false (a % size l) 0 (not-true _ h) v.aligned) (or_cases (ltb 2 l) (not (eqb (a % size l) 0)) e)

  is_valid : (ltb 2 l || not (eqb (a % size l) 0)) ≡ false → Valid l a
  is_valid e = let b = or_parts _ _ e in record { low = ltb-false _ _ b.0; aligned = eqb-true _ _ (not-false _ b.1) }

  choose : (v x y z : Bool) → (ltb 2 l || not (eqb (a % size l) 0)) ≡ v → some_page (λ p. is_absent (P p)) l a ≡ x
      → some_page (λ p. is_accepted (P p)) l a ≡ y → some_page (λ p. ltb (M p) l) l a ≡ z
      → Tells P M l a
      (cond v (status_of TdxOperandInvalid)
      (cond x (status_of TdxOperandAddrRangeError) (cond y (status_of TdxPageAlreadyAccepted) (cond z (status_of TdxPageSizeMismatch) 0))))
  choose true x y z ev ex ey ez = invalid refl (not_valid ev)
  choose false true y z ev ex ey ez =
      let s = found (λ p. is_absent (P p)) ex in
      missing refl (is_valid ev) s.0 s.1 (absent_is _ s.2)
  choose false false true z ev ex ey ez =
      let s = found (λ p. is_accepted (P p)) ey in
      already refl (is_valid ev) (λ p t. not_absent _ (none (λ p. is_absent (P p)) ex p t)) s.0 s.1 (accepted_is _ s.2)
  choose false false false true ev ex ey ez =
      let s = found (λ p. ltb (M p) l) ez in
      smaller refl (is_valid ev) (λ p t. pending_is _ (none (λ p. is_absent (P p)) ex p t) (none (λ p. is_accepted (P p)) ey p t)) s.0 s.1 (ltb-true _ _ s.2)
  choose false false false false ev ex ey ez =
      success refl (is_valid ev)
      (λ p t. (pending_is _ (none (λ p. is_absent (P p)) ex p t) (none (λ p. is_accepted (P p)) ey p t), ltb-false _ _ (none (λ p. ltb (M p) l) ez p t)))

  -- a zero reply
  pub record Free : Type 0 where
    pub valid : Valid l a
    pub waiting : (p : ℕ) → covers l a p ≡ true → P p ≡ pending

  pub free : (r : ℕ) → Tells P M l a r → r ≡ 0 → Free
  free r (invalid e n) z = absurd (omega arith)
  free r (missing e v p t h) z = absurd (omega arith)
  free r (already e v n p t h) z = absurd (omega arith)
  free r (smaller e v n p t h) z = absurd (omega arith)
  free r (success e v h) z = record { valid = v; waiting = λ p t. (h p t).0 }

  one_page : (p : ℕ) → l ≡ 0 → covers l a p ≡ true → a / 4096 ≡ p
  one_page p e t = let b : covers 0 a p ≡ true = rw e at t in let w = within 0 a p b in omega (arith, w.0, w.1)

  met : (r : ℕ) → Tells P M l a r → l ≡ 0 → class_of r ≡ number TdxPageAlreadyAccepted → P (a / 4096) ≡ accepted
  met r (invalid e n) z k = absurd (omega arith)
  met r (missing e v p t h) z k = absurd (omega arith)
  met r (already e v n p t h) z k = rw (one_page p z t) h
  met r (smaller e v n p t h) z k = absurd (omega arith)
  met r (success e v h) z k = absurd (omega arith)

  pub tells_sound : (r : ℕ) → Tells P M l a r → SoundAccept r l a P
  tells_sound r t =
      record {
        low = λ e. (free r t e).valid.low;
        aligned = λ e. (free r t e).valid.aligned;
        waiting = λ e. (free r t e).waiting;
        already = λ z _. met r t z;
      }

-- the byte of a page in the map and outside it
module _ (f c : ℕ) (L : List ℕ) where
  pub byte_in : (p : ℕ) → f ≤ p → p - f < c → byte_of f c L p ≡ get_or L (p - f) 0
  byte_in p u h = rw (le-leb f p u) (get_or-take c L (p - f) 0 h)

  pub byte_below : (p : ℕ) → p < f → byte_of f c L p ≡ 0
  byte_below p h = rw (lt-leb f p h)

  pub byte_past : (p : ℕ) → f ≤ p → (c ≤ p - f) ⊎ (length L ≤ p - f) → byte_of f c L p ≡ 0
  byte_past p u h =
      rw (le-leb f p u) (get_or_past (take c L) (p - f) 0 (⊎_elim (λ k. omega (arith, length-take c L)) (λ k. omega (arith, length-take c L)) h))

module _ (f c : ℕ) (L : List ℕ) where
  pub map_tells : (l a : ℕ) → Tells (map_pages f c L) (map_level f c L) l a (map_reply f c L (accepting l a))
  unfolding map_reply
  map_tells l a = choose (map_pages f c L) (map_level f c L) l a _ _ _ _ refl refl refl refl

  -- a pending page is one of the map
  record Held (p : ℕ) : Type 0 where
    over : f ≤ p
    counted : p - f < c
    inside : p - f < length L

  held : (p : ℕ) → map_pages f c L p ≡ pending → Held p
  held p e =
      let over : f ≤ p = ⊎_elim (λ h. absurd (not_both (ap page_of (sym (byte_below f c L p h)) ∙ e))) (λ h. h) (cases_lt p f) in
      record {
        over = over;
        counted = ⊎_elim (λ h. h) (λ h. absurd (not_both (ap page_of (sym (byte_past f c L p over (inl h))) ∙ e))) (cases_lt (p - f) c);
        inside = ⊎_elim (λ h. h) (λ h. absurd (not_both (ap page_of (sym (byte_past f c L p over (inr h))) ∙ e))) (cases_lt (p - f) (length L));
      }

  module _ (l a : ℕ) where
    abbrev written : ℕ → ℕ
    written i = cond (covers l a (f + i)) 4 (get_or L i 0)

    written_at : (i : ℕ) → i < length L → get_or (block_accepted f l a L) i 0 ≡ written i
    written_at i h = get_or-map-range_with_len written 0 (length L) i i 0 h (omega arith)

    written_past : (i : ℕ) → length L ≤ i → get_or (block_accepted f l a L) i 0 ≡ get_or L i 0
    written_past i h =
        get_or_past (block_accepted f l a L) i 0 (omega (arith, length-map-range_with_len written 0 (length L))) ∙ sym (get_or_past L i 0 h)

    pub next_zero : map_reply f c L (accepting l a) ≡ 0 → map_next f c L (accepting l a) ≡ block_accepted f l a L
    unfolding map_next
    next_zero z = rw (eq-eqb _ _ z)

    pub next_other : (map_reply f c L (accepting l a) ≡ 0 → ⊥) → map_next f c L (accepting l a) ≡ L
    unfolding map_next
    next_other z = rw (ne_eqb _ _ z)

    zero_free : map_reply f c L (accepting l a) ≡ 0 → Free (map_pages f c L) (map_level f c L) l a
    zero_free z = free (map_pages f c L) (map_level f c L) l a _ (map_tells l a) z

    back : (i : ℕ) → f + i - f ≡ i
    back i = omega arith

    inside_is : map_reply f c L (accepting l a) ≡ 0 → (i : ℕ) → covers l a (f + i) ≡ true → get_or (map_next f c L (accepting l a)) i 0 ≡ 4
    inside_is z i t =
        let h = held (f + i) ((zero_free z).waiting (f + i) t) in
        rw (next_zero z) (written_at i (omega (arith, h.inside)) ∙ rw t)

    outside_is : map_reply f c L (accepting l a) ≡ 0 → (i : ℕ) → covers l a (f + i) ≡ false → get_or (map_next f c L (accepting l a)) i 0 ≡ get_or L i 0
    outside_is z i t = rw (next_zero z) (⊎_elim (λ h. written_at i h ∙ rw t) (written_past i) (cases_lt i (length L)))

    behind_at : map_reply f c L (accepting l a) ≡ 0 → (i : ℕ) → c ≤ i → get_or (map_next f c L (accepting l a)) i 0 ≡ get_or L i 0
    behind_at z i b =
        ⊎_elim
        (λ t. let h = held (f + i) ((zero_free z).waiting (f + i) t) in absurd (omega (arith, h.counted)))
        (outside_is z i)
        (cases_Bool (covers l a (f + i)))

    long_is : length (map_next f c L (accepting l a)) ≡ length L
    long_is =
        ⊎_elim (λ z. rw (next_zero z) (length-map-range_with_len written 0 (length L))) (λ z. rw (next_other z))
        (cases_eq (map_reply f c L (accepting l a)) 0)

    behind_is : drop c (map_next f c L (accepting l a)) ≡ drop c L
    behind_is =
        ⊎_elim
        (λ z.
        ext_get_or 0 (drop c (map_next f c L (accepting l a))) (drop c L)
        (length-drop c (map_next f c L (accepting l a)) ∙ ap (λ n. n - c) long_is ∙ sym (length-drop c L))
        (λ i _. get_or-drop c (map_next f c L (accepting l a)) i 0 ∙ behind_at z (c + i) (omega arith) ∙ sym (get_or-drop c L i 0)))
        (λ z. ap (drop c) (next_other z))
        (cases_eq (map_reply f c L (accepting l a)) 0)

    pub map_leaves : Leaves f c L (map_next f c L (accepting l a)) l a (map_reply f c L (accepting l a))
    map_leaves = record { inside = inside_is; outside = outside_is; refused = next_other; behind = behind_is; long = long_is }

    -- the page of a byte
    byte_back : (p : ℕ) → f ≤ p → f + (p - f) ≡ p
    byte_back p u = omega arith

    page_inside : map_reply f c L (accepting l a) ≡ 0 → (p : ℕ) → covers l a p ≡ true → map_pages f c (map_next f c L (accepting l a)) p ≡ accepted
    page_inside z p t =
        let h = held p ((zero_free z).waiting p t) in
        let k : covers l a (f + (p - f)) ≡ true = rw (byte_back p h.over) t in
        ap page_of (byte_in f c (map_next f c L (accepting l a)) p h.over h.counted ∙ map_leaves.inside z (p - f) k)

    page_outside : map_reply f c L (accepting l a) ≡ 0 → (p : ℕ) → covers l a p ≡ false → map_pages f c (map_next f c L (accepting l a)) p ≡ map_pages f c L p
    page_outside z p t =
        ⊎_elim
        (λ h. ap page_of (byte_below f c (map_next f c L (accepting l a)) p h ∙ sym (byte_below f c L p h)))
        (λ u.
        let k : covers l a (f + (p - f)) ≡ false = rw (byte_back p u) t in
        ⊎_elim
        (λ h. ap page_of (byte_in f c (map_next f c L (accepting l a)) p u h ∙ map_leaves.outside z (p - f) k ∙ sym (byte_in f c L p u h)))
        (λ h. ap page_of (byte_past f c (map_next f c L (accepting l a)) p u (inl h) ∙ sym (byte_past f c L p u (inl h))))
        (cases_lt (p - f) c))
        (cases_lt p f)

    page_after : map_reply f c L (accepting l a) ≡ 0 → (p : ℕ) (b : Bool) → covers l a p ≡ b → map_pages f c (map_next f c L (accepting l a)) p ≡ cond b accepted (map_pages f c L p)
    page_after z p true t = page_inside z p t
    page_after z p false t = page_outside z p t

pub map_law : MapLaw
map_law = record { tells = tells_is; leaves = leaves_is }
  where
    tells_is : (f c : ℕ) (L : List ℕ) (q : Request) → MapTells f c L q
    tells_is f c L (accepting l a) = map_tells f c L l a

    leaves_is : (f c : ℕ) (L : List ℕ) (q : Request) → MapLeaves f c L q
    leaves_is f c L (accepting l a) = map_leaves f c L l a

module _ (f c : ℕ) (L : List ℕ) where
  pub map_now : (q : Request) → Sound (map_reply f c L q) q (map_pages f c L)
  map_now (accepting l a) = tells_sound (map_pages f c L) (map_level f c L) l a (map_reply f c L (accepting l a)) (map_tells f c L l a)

  pub map_past : (q : Request) → map_pages f c (map_next f c L q) ≡ taken (map_reply f c L q) q (map_pages f c L)
  map_past (accepting l a) =
      ⊎_elim
      (λ z. fun_ext (λ p. rw (eq-eqb (map_reply f c L (accepting l a)) 0 z) (page_after f c L l a z p (covers l a p) refl)))
      (λ z. rw (next_other f c L l a z) (taken_none (map_reply f c L (accepting l a)) (accepting l a) (map_pages f c L) z))
      (cases_eq (map_reply f c L (accepting l a)) 0)

pub map_sounds : (f c : ℕ) (L : List ℕ) → Sounds (map_replies f c L) (map_pages f c L)
map_sounds f c =
    sounds_by (map_replies f c) (map_pages f c) (map_next f c)
    (λ L q. rw (unrolled_now (map_reply f c) (map_next f c) L) (map_now f c L q))
    (unrolled_later (map_reply f c) (map_next f c))
    (λ L q. rw (unrolled_now (map_reply f c) (map_next f c) L) (map_past f c L q))

-- one request of a map, by its name and its bytes
module _ (f c name : ℕ) (L : List ℕ) (q : Request) where
  pub map_answers : map_reply f c L q ≡ (map_state f c name L).replies [] q
  map_answers = ap (λ (g : Request → ℕ). g q) (sym (unrolled_now (map_reply f c) (map_next f c) L))

  pub map_receives : map_state f c name (map_next f c L q) ≡ received q (map_state f c name L)
  map_receives =
      same_state _ _ _ _ _ _ _ (unrolled_later (map_reply f c) (map_next f c) L q)
      (map_past f c L q ∙ ap (λ (r : ℕ). taken r q (map_pages f c L)) map_answers)
      (unrolled_later (λ (K : List ℕ). K) (map_next f c) L q)
