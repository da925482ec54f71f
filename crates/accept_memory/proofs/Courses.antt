-- A walk on its course from s to e, and what follows for its requests.
use Rattle.std.proofs.Common.{◌≡◌, ℕ, zero, suc, ◌+◌, ◌-◌, ◌%◌, ◌<◌, ◌≤◌, false, ◌⊎◌, List, [], ◌∷◌, length, sym, refl, ap, ◌∙◌, inl, inr, ⊎_elim, arith}
use native.Mathlib.Nat.{one-le-pow}
use Rattle.std.proofs.lemmas.Bool.{eqb-false, leb-false, and_cases}
use Rattle.host.specs.Pages.{Request, accepting, size}
use Rattle.host.specs.Replies.{Replies, later, heard}
use Rattle.host.specs.Requests.{Every, Once}
use Rattle.accept_memory.specs.Walks.{State, asking, finished, misaligned, refused, View, Verdict, onward, lower, stop, verdict, reply_class, turned, replied, fits, arrive, begun, ended, asked}
use Rattle.accept_memory.specs.Promises.{Still, Inside, stepped_end, stepped_requests}
use Rattle.accept_memory.proofs.Places.{Block, Placed, arrive_by, arrive_placed, block_page, turned_placed, verdict_lower, left}
use Rattle.accept_memory.proofs.Outcomes.{asks, still, asks_or_still, ended_step, ended_still, asked_step, asked_still, block_here, replied_is, replied_placed, left_replied}

pub asked_none : (R : Replies) (w : View) → asked 0 R w ≡ []
unfolding asked
asked_none R w = refl

pub ended_none : (R : Replies) (w : View) → ended 0 R w ≡ w
unfolding ended
ended_none R w = refl

-- a walk that is finished is at its end, and one that is misaligned is before it with less than a page left, if it is at a
-- page
abbrev pub Closed : State → ℕ → ℕ → Type 0
Closed (asking l) a e = Unit {0}
Closed finished a e = e ≤ a
Closed misaligned a e = (a < e) × (a % 4096 ≡ 0 → e < a + 4096)
Closed (refused l) a e = Unit {0}

pub arrive_closed : (a e : ℕ) → Closed (arrive a e) a e
arrive_closed a e = arrive_by a e (λ s. Closed s a e) (λ h. h) (λ l b. tt) (λ lt t. (lt, λ even. short t even))
  where
    short : fits a e 0 ≡ false → a % 4096 ≡ 0 → e < a + 4096
    short t even = ⊎_elim (λ u. absurd (eqb-false _ _ u even)) (λ u. let less = leb-false 4096 (e - a) u in omega arith) (and_cases _ _ t)

pub record On (s e : ℕ) (w : View) : Type 0 where
  pub to : w.end ≡ e
  pub from : s ≤ w.next
  pub before : w.next ≤ e
  pub page : w.next % 4096 ≡ 0
  pub placed : Placed w
  pub closed : Closed w.state w.next e

-- a block is of whole pages
whole_pages : (a l : ℕ) → a % 4096 ≡ 0 → (a + size l) % 4096 ≡ 0
whole_pages a l h = omega arith

module _ (s e : ℕ) (w : View) (l r : ℕ) (o : On s e w) (h : w.state ≡ asking l) where
  here : Block w.next w.end l
  here = block_here w l r h o.placed

  turned_on : (v : Verdict) → (v ≡ lower → 0 < l) → On s e (turned v l r w)
  turned_on onward g =
      let end_is = o.to in
      let room = here.ends in
      record {
        to = o.to;
        from = omega (arith, o.from);
        before = omega arith;
        page = whole_pages w.next l o.page;
        placed = turned_placed w l r onward g here;
        closed = rw o.to (arrive_closed (w.next + size l) e);
      }
  turned_on lower g = record { to = o.to; from = o.from; before = o.before; page = o.page; placed = turned_placed w l r lower g here; closed = tt }
  turned_on stop g = record { to = o.to; from = o.from; before = o.before; page = o.page; placed = tt; closed = tt }

  pub on_replied : On s e (replied w r)
  on_replied = rw (replied_is w l r h o.placed) (turned_on (verdict l (reply_class r)) (verdict_lower l (reply_class r)))

  pub within_here : Inside s e (accepting l w.next)
  within_here = record { low = here.low; aligned = here.aligned; from = o.from; to = rw o.to at here.ends }

-- a walk that asks at its beginning is on its course
pub on_begun : (s e l : ℕ) → arrive s e ≡ asking l → On s e (begun s e)
on_begun s e l h =
    let b : Block s e l = rw h at (arrive_placed s e) in
    let room = b.ends in
    record { to = refl; from = omega arith; before = omega arith; page = block_page s e l b; placed = arrive_placed s e; closed = arrive_closed s e }

module _ (s e : ℕ) where
  pub inside : (k : ℕ) (R : Replies) (w : View) → On s e w → Every (Inside s e) (asked k R w)
  inside zero R w o = rw (asked_none R w) tt
  inside (suc k) R w o =
      elim (asks_or_still w.state) [
        | asks l h ↦
            let q = accepting l w.next in
            rw (asked_step k R w l h) (within_here s e w l 0 o h, inside k (later q R) (replied w (R [] q)) (on_replied s e w l (R [] q) o h))
        | still h ↦ rw (asked_still (suc k) R w h) tt
      ]

  pub ended_on : (k : ℕ) (R : Replies) (w : View) → On s e w → On s e (ended k R w)
  ended_on zero R w o = rw (ended_none R w) o
  ended_on (suc k) R w o =
      elim (asks_or_still w.state) [
        | asks l h ↦
            let q = accepting l w.next in
            rw (ended_step k R w l h) (ended_on k (later q R) (replied w (R [] q)) (on_replied s e w l (R [] q) o h))
        | still h ↦ rw (ended_still (suc k) R w h) o
      ]

-- a request that a walk makes after the one of level l at a: it lies behind, or at a on a lower level
abbrev pub Beyond : ℕ → ℕ → Request → Type 0
Beyond l a (accepting m b) = (a < b) ⊎ ((a ≡ b) × (m < l))

abbrev BeyondIn : ℕ → ℕ → State → ℕ → Type 0
BeyondIn l a (asking m) b = (a < b) ⊎ ((a ≡ b) × (m < l))
BeyondIn l a finished b = Unit {0}
BeyondIn l a misaligned b = Unit {0}
BeyondIn l a (refused m) b = Unit {0}

-- where a walk goes from a block of level m at b
beyond_arrive : (l a b e : ℕ) → a < b → BeyondIn l a (arrive b e) b
beyond_arrive l a b e h = arrive_by b e (λ s. BeyondIn l a s b) (λ _. tt) (λ m _. inl h) (λ _ _. tt)

grows : (b m : ℕ) → b < b + size m
grows b m = omega (arith, one-le-pow m 512 (omega arith))

beyond_turned : (l a : ℕ) (w : View) (m r : ℕ) (v : Verdict) → (v ≡ lower → 0 < m) → (a < w.next) ⊎ ((a ≡ w.next) × (m ≤ l))
    → BeyondIn l a (turned v m r w).state (turned v m r w).next
beyond_turned l a w m r onward g d =
    beyond_arrive l a (w.next + size m) w.end
    (⊎_elim (λ h. let x = grows w.next m in omega arith) (λ h. let x = grows w.next m in omega (arith, h.0)) d)
beyond_turned l a w m r lower g d = let p = g refl in ⊎_elim (λ h. inl h) (λ h. inr (h.0, omega (arith, h.1))) d
beyond_turned l a w m r stop g d = tt

beyond_replied : (l a : ℕ) (w : View) (m r : ℕ) → w.state ≡ asking m → Placed w → (a < w.next) ⊎ ((a ≡ w.next) × (m ≤ l))
    → BeyondIn l a (replied w r).state (replied w r).next
beyond_replied l a w m r h p d = rw (replied_is w m r h p) (beyond_turned l a w m r (verdict m (reply_class r)) (verdict_lower m (reply_class r)) d)

beyond_all : (l a k : ℕ) (R : Replies) (w : View) → Placed w → BeyondIn l a w.state w.next → Every (Beyond l a) (asked k R w)
beyond_all l a zero R w p d = rw (asked_none R w) tt
beyond_all l a (suc k) R w p d =
    elim (asks_or_still w.state) [
      | asks m h ↦
          let q = accepting m w.next in
          let here : (a < w.next) ⊎ ((a ≡ w.next) × (m < l)) = rw h at d in
          let weak : (a < w.next) ⊎ ((a ≡ w.next) × (m ≤ l)) = ⊎_elim (λ x. inl x) (λ x. inr (x.0, omega (arith, x.1))) here in
          rw (asked_step k R w m h)
          (here, beyond_all l a k (later q R) (replied w (R [] q)) (replied_placed w m (R [] q) h p) (beyond_replied l a w m (R [] q) h p weak))
      | still h ↦ rw (asked_still (suc k) R w h) tt
    ]

beyond_other : (l a : ℕ) (q : Request) → Beyond l a q → q ≡ accepting l a → ⊥
beyond_other l a (accepting m b) d e =
    let x : m ≡ l = cc in
    let y : b ≡ a = cc in
    ⊎_elim (λ h. omega arith) (λ h. omega (arith, h.1)) d

every_other : (l a : ℕ) (qs : List Request) → Every (Beyond l a) qs → Every (λ x. x ≡ accepting l a → ⊥) qs
every_other l a [] h = tt
every_other l a (q ∷ qs) h = (beyond_other l a q h.0, every_other l a qs h.1)

pub once : (k : ℕ) (R : Replies) (w : View) → Placed w → Once (asked k R w)
once zero R w p = rw (asked_none R w) tt
once (suc k) R w p =
    elim (asks_or_still w.state) [
      | asks l h ↦
          let q = accepting l w.next in
          let p' = replied_placed w l (R [] q) h p in
          let rest = asked k (later q R) (replied w (R [] q)) in
          rw (asked_step k R w l h) (
            every_other l w.next rest
                (beyond_all l w.next k (later q R) (replied w (R [] q)) p' (beyond_replied l w.next w l (R [] q) h p (inr (refl, omega arith)))),
            once k (later q R) (replied w (R [] q)) p',
          )
      | still h ↦ rw (asked_still (suc k) R w h) tt
    ]

-- each request is counted once
turned_count : (v : Verdict) (l r : ℕ) (w : View) → (turned v l r w).count ≡ w.count + 1
turned_count onward l r w = refl
turned_count lower l r w = refl
turned_count stop l r w = refl

pub counted : (k : ℕ) (R : Replies) (w : View) → Placed w → (ended k R w).count ≡ w.count + length (asked k R w)
counted zero R w p = rw (ended_none R w, asked_none R w) (omega arith)
counted (suc k) R w p =
    elim (asks_or_still w.state) [
      | asks l h ↦
          let q = accepting l w.next in
          let r = R [] q in
          let ih = counted k (later q R) (replied w r) (replied_placed w l r h p) in
          let one : (replied w r).count ≡ w.count + 1 = ap (λ (x : View). x.count) (replied_is w l r h p) ∙ turned_count (verdict l (reply_class r)) l r w in
          rw (ended_step k R w l h, asked_step k R w l h) (omega (arith, ih, one))
      | still h ↦ rw (ended_still (suc k) R w h, asked_still (suc k) R w h) (omega arith)
    ]

pub bounded : (k : ℕ) (R : Replies) (w : View) → length (asked k R w) ≤ k
bounded zero R w = rw (asked_none R w) (omega arith)
bounded (suc k) R w =
    elim (asks_or_still w.state) [
      | asks l h ↦
          let q = accepting l w.next in
          let ih = bounded k (later q R) (replied w (R [] q)) in
          rw (asked_step k R w l h) (omega (arith, ih))
      | still h ↦ rw (asked_still (suc k) R w h) (omega arith)
    ]

-- with enough steps a walk has stopped, and more steps change nothing
pub stopped : (k : ℕ) (R : Replies) (w : View) → Placed w → left w ≤ k → Still (ended k R w).state
stopped zero R w p f =
    elim (asks_or_still w.state) [
      | asks l h ↦ absurd (omega (arith, left_replied w l 0 h p))
      | still h ↦ rw (ended_none R w) h
    ]
stopped (suc k) R w p f =
    elim (asks_or_still w.state) [
      | asks l h ↦
          let q = accepting l w.next in
          rw (ended_step k R w l h)
          (stopped k (later q R) (replied w (R [] q)) (replied_placed w l (R [] q) h p) (omega (arith, left_replied w l (R [] q) h p)))
      | still h ↦ rw (ended_still (suc k) R w h) h
    ]

pub settled : (j k : ℕ) (R : Replies) (w : View) → Placed w → left w ≤ j → j ≤ k → (ended k R w ≡ ended j R w) × (asked k R w ≡ asked j R w)
settled j zero R w p f m = let z : j ≡ 0 = omega arith in rw z (refl, refl)
settled zero (suc k) R w p f m =
    elim (asks_or_still w.state) [
      | asks l h ↦ absurd (omega (arith, left_replied w l 0 h p))
      | still h ↦ (ended_still (suc k) R w h ∙ sym (ended_none R w), asked_still (suc k) R w h ∙ sym (asked_none R w))
    ]
settled (suc j) (suc k) R w p f m =
    elim (asks_or_still w.state) [
      | asks l h ↦
          let q = accepting l w.next in
          let ih = settled j k (later q R) (replied w (R [] q)) (replied_placed w l (R [] q) h p) (omega (arith, left_replied w l (R [] q) h p)) (omega arith) in (
            ended_step k R w l h ∙ ih.0 ∙ sym (ended_step j R w l h),
            asked_step k R w l h ∙ ap (λ (x : List Request). q ∷ x) ih.1 ∙ sym (asked_step j R w l h),
          )
      | still h ↦ (
        ended_still (suc k) R w h ∙ sym (ended_still (suc j) R w h),
        asked_still (suc k) R w h ∙ sym (asked_still (suc j) R w h),
      )
    ]

-- the stepped walk over the same replies
stepped_none : (R : Replies) (w : View) → (stepped_requests w (heard R []) ≡ []) × (stepped_end w (heard R []) ≡ w)
unfolding heard stepped_requests stepped_end
stepped_none R w = (refl, refl)

stepped_some : (R : Replies) (w : View) (l : ℕ) (rest : List Request) → w.state ≡ asking l
    → (stepped_requests w (heard R (accepting l w.next ∷ rest)) ≡ accepting l w.next ∷ stepped_requests (replied w (R [] (accepting l w.next))) (heard (later (accepting l w.next) R) rest))
    × (stepped_end w (heard R (accepting l w.next ∷ rest)) ≡ stepped_end (replied w (R [] (accepting l w.next))) (heard (later (accepting l w.next) R) rest))
unfolding heard stepped_requests stepped_end
stepped_some R w l rest h = (rw h, refl)

pub stepped : (k : ℕ) (R : Replies) (w : View)
    → (stepped_requests w (heard R (asked k R w)) ≡ asked k R w) × (stepped_end w (heard R (asked k R w)) ≡ ended k R w)
stepped zero R w = rw (asked_none R w, ended_none R w) (stepped_none R w)
stepped (suc k) R w =
    elim (asks_or_still w.state) [
      | asks l h ↦
          let q = accepting l w.next in
          let ih = stepped k (later q R) (replied w (R [] q)) in
          let some = stepped_some R w l (asked k (later q R) (replied w (R [] q))) h in
          rw (asked_step k R w l h, ended_step k R w l h) (some.0 ∙ ap (λ (x : List Request). q ∷ x) ih.0, some.1 ∙ ih.1)
      | still h ↦ rw (asked_still (suc k) R w h, ended_still (suc k) R w h) (stepped_none R w)
    ]
