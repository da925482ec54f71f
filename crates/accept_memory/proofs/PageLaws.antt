-- What the requests of a walk do to the pages, where every reply is sound.
use Rattle.std.proofs.Common.{◌≡◌, ℕ, zero, suc, ◌+◌, ◌*◌, ◌/◌, ◌%◌, ◌^◌, ◌<◌, ◌≤◌, Bool, true, false, cond, ◌&&◌, ◌||◌, eqb, ◌⊎◌, List, [], ◌∷◌, sym, refl, ap, ◌∙◌, inl, inr, ⊎_elim, arith}
use Rattle.std.proofs.lemmas.Bool.{cases_Bool, cases_lt, and_parts, and_from, eqb-true, eq-eqb, leb-true, ltb-true, le-leb, lt-ltb}
use Rattle.tdcall.specs.declared.TdCallError.TheVariants.{TdxPageAlreadyAccepted, TdxPageSizeMismatch, TdxOperandInvalid}
use Rattle.tdcall.specs.Statuses.{class_of, number}
use Rattle.host.specs.Pages.{accepted, Pages, Request, accepting, size, covers, taken}
use Rattle.host.specs.Replies.{Replies, later, after}
use Rattle.host.specs.Requests.{Every}
use Rattle.host.specs.Laws.{SoundAccept, Sounds}
use Rattle.host.proofs.Soundness.{sounds_now, sounds_later, taken_keeps, after_keeps}
use Rattle.accept_memory.specs.declared.walk.step.ReplyClass.TheVariants.{TooLarge, Failure}
use Rattle.accept_memory.specs.Walks.{View, Verdict, onward, lower, stop, verdict, reply_class, turned, replied, ended, asked}
use Rattle.accept_memory.specs.Promises.{Within, Inside, Gained}
use Rattle.accept_memory.proofs.Places.{block_page}
use Rattle.accept_memory.proofs.Outcomes.{asks, still, asks_or_still, ended_step, ended_still, asked_step, replied_is}
use Rattle.accept_memory.proofs.Courses.{ended_none, On, on_replied}

-- the pages of a block of the span lie wholly in the span
covered : (s e l a p : ℕ) → Within s e l a → covers l a p ≡ true → (s ≤ 4096 * p) × (4096 * p + 4096 ≤ e)
covered s e l a p w t =
    let b = and_parts _ _ t in
    let low : a / 4096 ≤ p = leb-true _ _ b.0 in
    let high : p < a / 4096 + 512 ^ l = ltb-true _ _ b.1 in
    let even = block_page a e l (record { low = w.low; aligned = w.aligned; ends = w.to }) in
    let from = w.from in
    let to = w.to in (omega arith, omega arith)

module _ (s e : ℕ) where
  one : (l a r : ℕ) (P : Pages) (p : ℕ) → SoundAccept r l a P → Within s e l a
      → (P' : Pages) → ((p : ℕ) → taken r (accepting l a) P p ≡ accepted → P' p ≡ accepted)
      → (P' p ≡ taken r (accepting l a) P p) ⊎ Gained s e (taken r (accepting l a) P) P' p
      → (P' p ≡ P p) ⊎ Gained s e P P' p
  one l a r P p sound w P' keeps ih =
      elim (cases_Bool (eqb r 0 && covers l a p)) [
        | inl t ↦
            let b = and_parts _ _ t in
            let zero_is = eqb-true _ _ b.0 in
            let span = covered s e l a p w b.1 in
            inr (record { was = sound.waiting zero_is p b.1; is = keeps p (rw t); from = span.0; to = span.1 })
        | inr t ↦
            let same : taken r (accepting l a) P p ≡ P p = rw t in
            ⊎_elim (λ h. inl (h ∙ same)) (λ h. inr (record { was = sym same ∙ h.was; is = h.is; from = h.from; to = h.to })) ih
      ]

  pub gained : (qs : List Request) (R : Replies) (P : Pages) → Sounds R P → Every (Inside s e) qs → (p : ℕ)
      → (after R qs P p ≡ P p) ⊎ Gained s e P (after R qs P) p
  unfolding after
  gained [] R P so ins p = inl refl
  gained (accepting l a ∷ qs) R P so ins p =
      let q = accepting l a in
      let P₁ = taken (R [] q) q P in
      one l a (R [] q) P p (sounds_now R P q so) ins.0 (after (later q R) qs P₁) (λ p h. after_keeps (later q R) qs P₁ p h)
      (gained qs (later q R) P₁ (sounds_later R P q so) ins.1 p)

-- when a walk goes on, the reply was zero, or already accepted at level 0
onward_means : (l r : ℕ) → verdict l (reply_class r) ≡ onward → (r ≡ 0) ⊎ ((l ≡ 0) × (class_of r ≡ number TdxPageAlreadyAccepted))
onward_means l r h =
    elim (cases_Bool (eqb r 0)) [
      | inl t ↦ inl (eqb-true _ _ t)
      | inr t ↦
          elim (cases_Bool (eqb (class_of r) (number TdxPageAlreadyAccepted))) [
            | inl u ↦ inr (at (eqb l 0) refl (rw (t, u) at h), eqb-true _ _ u)
            | inr u ↦ absurd (other (eqb (class_of r) (number TdxPageSizeMismatch) || eqb (class_of r) (number TdxOperandInvalid)) (rw (t, u) at h))
          ]
    ]
  where
    at : (b : Bool) → eqb l 0 ≡ b → cond b onward lower ≡ onward → l ≡ 0
    at true t h = eqb-true l 0 t
    at false t h = let z : ◌≡◌ {A = ℕ} 0 1 = cc in absurd (omega arith)

    never : (b : Bool) → cond b stop lower ≡ onward → ⊥
    never true h = let z : ◌≡◌ {A = ℕ} 0 1 = cc in omega arith
    never false h = let z : ◌≡◌ {A = ℕ} 0 1 = cc in omega arith

    other : (b : Bool) → verdict l (cond b TooLarge Failure) ≡ onward → ⊥
    other true h = never (eqb l 0) h
    other false h = let z : ◌≡◌ {A = ℕ} 0 1 = cc in omega arith

-- then the block is accepted
accepted_here : (r l a : ℕ) (P : Pages) → SoundAccept r l a P → a % 4096 ≡ 0 → verdict l (reply_class r) ≡ onward → (x : ℕ) → a ≤ x → x < a + size l
    → taken r (accepting l a) P (x / 4096) ≡ accepted
accepted_here r l a P sound even v x from to =
    elim (onward_means l r v) [
      | inl z ↦
          let in_it : covers l a (x / 4096) ≡ true = and_from _ _ (le-leb (a / 4096) (x / 4096) (omega arith)) (lt-ltb (x / 4096) (a / 4096 + 512 ^ l) (omega arith)) in
          ap (λ (b : Bool). cond b accepted (P (x / 4096))) (and_from (eqb r 0) (covers l a (x / 4096)) (eq-eqb _ _ z) in_it)
      | inr z ↦
          let low = z.0 in
          let short : size l ≡ 4096 = rw low in
          let same : a / 4096 ≡ x / 4096 = omega arith in
          taken_keeps r (accepting l a) P (x / 4096) (rw same at (sound.already z.0 even z.1))
    ]

after_more : (R : Replies) (q : Request) (rest : List Request) (P : Pages) (p : ℕ) → after (later q R) rest (taken (R [] q) q P) p ≡ accepted → after R (q ∷ rest) P p ≡ accepted
unfolding after
after_more R q rest P p h = h

-- a walk goes on behind the block, or stays where it is
moves : (v : Verdict) (l r : ℕ) (w : View) → ((turned v l r w).next ≡ w.next) ⊎ ((v ≡ onward) × ((turned v l r w).next ≡ w.next + size l))
moves onward l r w = inr (refl, refl)
moves lower l r w = inl refl
moves stop l r w = inl refl

-- what lies behind a walk is accepted
pub passed : (s e k : ℕ) (R : Replies) (P : Pages) (w : View) → On s e w → Sounds R P → (x : ℕ) → w.next ≤ x → x < (ended k R w).next
    → after R (asked k R w) P (x / 4096) ≡ accepted
passed s e zero R P w o so x from to = absurd (omega (arith, ap (λ (v : View). v.next) (ended_none R w)))
passed s e (suc k) R P w o so x from to =
    elim (asks_or_still w.state) [
      | asks l h ↦
          let q = accepting l w.next in
          let r = R [] q in
          let P₁ = taken r q P in
          let rest = asked k (later q R) (replied w r) in
          let next_is : (replied w r).next ≡ (turned (verdict l (reply_class r)) l r w).next = ap (λ (v : View). v.next) (replied_is w l r h o.placed) in
          let to' : x < (ended k (later q R) (replied w r)).next = rw (ended_step k R w l h) at to in
          let ih : (replied w r).next ≤ x → after (later q R) rest P₁ (x / 4096) ≡ accepted =
          λ f. passed s e k (later q R) P₁ (replied w r) (on_replied s e w l r o h) (sounds_later R P q so) x f to' in
          let keeps : P₁ (x / 4096) ≡ accepted → after (later q R) rest P₁ (x / 4096) ≡ accepted = λ y. after_keeps (later q R) rest P₁ (x / 4096) y in
          rw (asked_step k R w l h) (
          after_more R q rest P (x / 4096)
          (elim (moves (verdict l (reply_class r)) l r w) [
            | inl m ↦ ih (omega arith)
            | inr m ↦
                elim (cases_lt x (w.next + size l)) [
                  | inl c ↦ keeps (accepted_here r l w.next P (sounds_now R P q so) o.page m.0 x from c)
                  | inr c ↦ ih (omega (arith, m.1))
                ]
          ]))
      | still h ↦ absurd (omega (arith, ap (λ (v : View). v.next) (ended_still (suc k) R w h)))
    ]
