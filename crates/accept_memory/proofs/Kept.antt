-- Every walk over a sound host keeps its promises.
use Rattle.std.proofs.Common.{◌≡◌, ℕ, ◌/◌, ◌%◌, ◌<◌, ◌≤◌, ◌⊎◌, [], Ok, Err, refl, ap, ◌∙◌, inl, inr, ⊎_elim, arith}
use Rattle.fault.specs.Refusals.{Told}
use Rattle.host.specs.Pages.{Pages, accepted}
use Rattle.host.specs.Replies.{Replies, after}
use Rattle.host.specs.Requests.{Every}
use Rattle.host.specs.Laws.{Sounds}
use Rattle.accept_memory.specs.Walks.{State, asking, finished, misaligned, refused, View, arrive, begun, bound, answer_in, walk_end, walk_requests, walk_answer}
use Rattle.accept_memory.specs.Promises.{Still, Inside, Gained, count_of, LastReply, Promises}
use Rattle.accept_memory.proofs.Places.{arrive_by, left_begun}
use Rattle.accept_memory.proofs.Outcomes.{asks, still, asks_or_still, ended_still, asked_still, begun_placed}
use Rattle.accept_memory.proofs.Courses.{On, on_begun, Closed, arrive_closed, inside, ended_on, once, counted, bounded, stopped, settled, stepped}
use Rattle.accept_memory.proofs.Failures.{Failing, at_misaligned, at_refused, failing, refused_last, arrive_unrefused}
use Rattle.accept_memory.proofs.PageLaws.{gained, passed}

count_of_answer : (s : State) (w : View) → count_of (answer_in s w) ≡ w.count
count_of_answer (asking l) w = refl
count_of_answer finished w = refl
count_of_answer misaligned w = refl
count_of_answer (refused l) w = refl

-- a success of a walk that has stopped is at the end
success : (s : State) (w : View) (n a e : ℕ) → Still s → Closed s a e → answer_in s w ≡ Ok n → e ≤ a
success (asking l) w n a e h c q = absurd h
success finished w n a e h c q = c
success misaligned w n a e h c q = let z : ◌≡◌ {A = ℕ} 0 1 = cc in absurd (omega arith)
success (refused l) w n a e h c q = let z : ◌≡◌ {A = ℕ} 0 1 = cc in absurd (omega arith)

module _ (s e : ℕ) (R : Replies) (P : Pages) (so : Sounds R P) where
  -- a walk that does not ask at its beginning asks nothing and stays there
  abbrev Idle : Type 0
  Idle = (walk_requests R s e ≡ []) × (walk_end R s e ≡ begun s e)

  start : On s e (begun s e) ⊎ Idle
  start = elim (asks_or_still (arrive s e)) [
    | asks l h ↦ inl (on_begun s e l h)
    | still h ↦ inr (asked_still (bound s e) R (begun s e) h, ended_still (bound s e) R (begun s e) h)
  ]

  all_inside : Every (Inside s e) (walk_requests R s e)
  all_inside = ⊎_elim (λ o. inside s e (bound s e) R (begun s e) o) (λ i. rw i.0 tt) start

  change : (p : ℕ) → (after R (walk_requests R s e) P p ≡ P p) ⊎ Gained s e P (after R (walk_requests R s e) P) p
  change = gained s e (walk_requests R s e) R P so all_inside

  behind : (x : ℕ) → s ≤ x → x < (walk_end R s e).next → after R (walk_requests R s e) P (x / 4096) ≡ accepted
  behind x from to =
      ⊎_elim (λ o. passed s e (bound s e) R P (begun s e) o so x from to)
      (λ i. absurd (omega (arith, ap (λ (v : View). v.next) i.1))) start

  still_end : Still (walk_end R s e).state
  still_end = stopped (bound s e) R (begun s e) (begun_placed s e) (left_begun s e)

  -- an idle walk of a span with some address in it fails
  idle_fails : s < e → (n : ℕ) → Idle → walk_answer R s e ≡ Ok n → ⊥
  idle_fails lt n i q = arrive_by s e (λ t. Still t → answer_in t (begun s e) ≡ Ok n → ⊥)
      (λ h _ _. omega arith) (λ l _ h _. h) (λ _ _ _ q. let z : ◌≡◌ {A = ℕ} 0 1 = cc in omega arith)
      (rw i.1 at still_end) (rw i.1 at q)

  finish : (n : ℕ) → walk_answer R s e ≡ Ok n → s < e
      → (s % 4096 ≡ 0) × (e % 4096 ≡ 0) × ((x : ℕ) → s ≤ x → x < e → after R (walk_requests R s e) P (x / 4096) ≡ accepted)
  finish n q lt =
      ⊎_elim
      (λ o.
      let o' = ended_on s e (bound s e) R (begun s e) o in
      let end_is = success (walk_end R s e).state (walk_end R s e) n (walk_end R s e).next e still_end o'.closed q in
      let page = o'.page in
      let before = o'.before in
      let same : (walk_end R s e).next ≡ e = omega arith in
      (o.page, rw same at page, λ x from to. behind x from (omega arith)))
      (λ i. absurd (idle_fails lt n i q)) start

  fails : (t : Told) → walk_answer R s e ≡ Err t → Failing (walk_end R s e).state (walk_end R s e) t
  fails t q = failing (walk_end R s e).state (walk_end R s e) t still_end q

  by_number : (t : Told) → Failing (walk_end R s e).state (walk_end R s e) t → (t.refusal ≡ 1) ⊎ (t.refusal ≡ 5)
  by_number t (at_misaligned h e) = inl (ap (λ (x : Told). x.refusal) e)
  by_number t (at_refused l h e) = inr (ap (λ (x : Told). x.refusal) e)

  at_next : (t : Told) → Failing (walk_end R s e).state (walk_end R s e) t → t.address ≡ (walk_end R s e).next
  at_next t (at_misaligned h e) = ap (λ (x : Told). x.address) e
  at_next t (at_refused l h e) = ap (λ (x : Told). x.address) e

  -- where no block fits, an end of the span is no multiple of 4096
  odd_end : (walk_end R s e).state ≡ misaligned → s % 4096 ≡ 0 → e % 4096 ≡ 0 → ⊥
  odd_end h even-start even-end =
      ⊎_elim
      (λ o.
      let o' = ended_on s e (bound s e) R (begun s e) o in
      let c : Closed misaligned (walk_end R s e).next e = rw h at o'.closed in
      let page = o'.page in
      let close = c.1 page in
      omega (arith, c.0))
      (λ i.
      let h' : arrive s e ≡ misaligned = rw i.1 at h in
      let c : Closed misaligned s e = rw h' at (arrive_closed s e) in
      let close = c.1 even-start in
      omega (arith, c.0)) start

  odd : (t : Told) → Failing (walk_end R s e).state (walk_end R s e) t → t.refusal ≡ 1 → s % 4096 ≡ 0 → e % 4096 ≡ 0 → ⊥
  odd t (at_misaligned h x) n = odd_end h
  odd t (at_refused l h x) n = λ _ _. let five : t.refusal ≡ 5 = ap (λ (y : Told). y.refusal) x in omega arith

  last : (t : Told) → Failing (walk_end R s e).state (walk_end R s e) t → t.refusal ≡ 5 → LastReply R (walk_requests R s e) t
  last t (at_misaligned h x) n = let one : t.refusal ≡ 1 = ap (λ (y : Told). y.refusal) x in absurd (omega arith)
  last t (at_refused l h x) n =
      let a = refused_last (bound s e) R (begun s e) l (begun_placed s e) (arrive_unrefused s e) h in
      rw x (record { earlier = a.earlier; request = a.request; reply = a.reply; not_zero = a.not_zero })

  pub promises : Promises s e R P (after R (walk_requests R s e) P) (walk_answer R s e)
  promises = record {
    inside = all_inside;
    once = once (bound s e) R (begun s e) (begun_placed s e);
    counted = count_of_answer (walk_end R s e).state (walk_end R s e) ∙ counted (bound s e) R (begun s e) (begun_placed s e) ∙ omega arith;
    bounded = bounded (bound s e) R (begun s e);
    stopped = still_end;
    settled = λ k h. settled (bound s e) k R (begun s e) (begun_placed s e) (left_begun s e) h;
    gained = change;
    outside = λ p h. ⊎_elim (λ same. same) (λ g. absurd (⊎_elim (λ a. omega (arith, g.from)) (λ a. omega (arith, g.to)) h)) (change p);
    passed = behind;
    done = finish;
    failed = λ t q. by_number t (fails t q);
    below = λ t q x from to. let next_is = at_next t (fails t q) in behind x from (omega arith);
    misaligned_end = λ t q. odd t (fails t q);
    last_reply = λ t q. last t (fails t q);
    stepped = (stepped (bound s e) R (begun s e)).0;
    stepped_to = (stepped (bound s e) R (begun s e)).1;
  }
