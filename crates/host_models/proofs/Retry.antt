-- Retry does what its law says, and it is lawful over any host.
use Rattle.std.proofs.Common.{◌≡◌, ℕ, zero, suc, ◌+◌, ◌-◌, ◌<◌, true, false, ◌⊎◌, List, [], ◌∷◌, replicate, sym, refl, ap, ◌∙◌, inl, inr, ⊎_elim, arith}
use Rattle.std.proofs.lemmas.Bool.{cases_Bool, eqb-true, eqb-false}
use Rattle.tdcall.specs.declared.TdCallError.TheVariants.{TdxOperandBusy}
use Rattle.tdcall.specs.Statuses.{class_of, number}
use Rattle.host.proofs.Soundness.{sounds_now, sounds_later, taken_none}
use Rattle.host.specs.Pages.{Request, Pages, taken}
use Rattle.host.specs.Replies.{Replies, later, after}
use Rattle.host.specs.States.{HostState, received, received_all}
use Rattle.host.specs.Laws.{Sound, Sounds}
use Rattle.host.proofs.Layers.{received_more, received_one}
use Rattle.host.specs.Layers.{Lawful}
use Rattle.host_models.specs.Retry.{is_busy, retry_reply, retry_passes, retrying, Retried, RetryLaw}

-- a busy reply with a request left
pub retry_more : (n : ℕ) (R : Replies) (q : Request) → 0 < n → is_busy (R [] q) ≡ true
    → (retry_reply (n - 1) (later q R) q ≡ retry_reply n R q) × (q ∷ retry_passes (n - 1) (later q R) q ≡ retry_passes n R q)
unfolding retry_reply retry_passes
retry_more zero R q h e = absurd (omega arith)
retry_more (suc n) R q h e = let m : suc n - 1 ≡ n = omega arith in (rw (m, e), rw (m, e))

-- the last reply
pub retry_last : (n : ℕ) (R : Replies) (q : Request) → (n ≡ 0) ⊎ (is_busy (R [] q) ≡ false)
    → (R [] q ≡ retry_reply n R q) × (q ∷ [] ≡ retry_passes n R q)
unfolding retry_reply retry_passes
retry_last zero R q h = (refl, refl)
retry_last (suc n) R q h = let e : is_busy (R [] q) ≡ false = ⊎_elim (λ z. absurd (omega arith)) (λ x. x) h in (rw e, rw e)

-- the same of the host below: after a busy reply what is left comes to the same, and the last reply ends it
module _ (n : ℕ) (h : HostState) (q : Request) where
  pub more_left : 0 < n → is_busy (h.replies [] q) ≡ true → (h' : HostState) → h' ≡ received q h
      → (retry_reply (n - 1) h'.replies q ≡ retry_reply n h.replies q)
      × (received_all (retry_passes (n - 1) h'.replies q) h' ≡ received_all (retry_passes n h.replies q) h)
  more_left some busy h' e =
      let more = retry_more n h.replies q some busy in
      rw e (more.0, sym (received_more h q (retry_passes (n - 1) (later q h.replies) q)) ∙ ap (λ (l : List Request). received_all l h) more.1)

  pub none_left : (n ≡ 0) ⊎ (is_busy (h.replies [] q) ≡ false)
      → (h.replies [] q ≡ retry_reply n h.replies q) × (received q h ≡ received_all (retry_passes n h.replies q) h)
  none_left over =
      let last = retry_last n h.replies q over in
      (last.0, sym (received_one q h) ∙ ap (λ (l : List Request). received_all l h) last.1)

module _ (n : ℕ) (R : Replies) (q : Request) where
  -- the first reply is given
  ended : (r : ℕ) (qs : List Request) → r ≡ R [] q → qs ≡ q ∷ [] → (class_of r ≡ number TdxOperandBusy → 0 ≡ n) → Retried n R q r qs
  ended r qs e k h =
      record { repeats = 0; bounded = omega arith; received = k; waited = λ i l. absurd (omega arith); last = e; spent = h }

-- the first reply is busy, and the request is made again
again : (n : ℕ) (R : Replies) (q : Request) (r : ℕ) (qs : List Request) → class_of (R [] q) ≡ number TdxOperandBusy
    → Retried n (later q R) q r qs → Retried (suc n) R q r (q ∷ qs)
again n R q r qs e t =
    record {
      repeats = suc t.repeats;
      bounded = omega (arith, t.bounded);
      received = let m : suc t.repeats + 1 ≡ suc (t.repeats + 1) = omega arith in rw m (ap (λ (l : List Request). q ∷ l) t.received);
      waited = first;
      last = t.last;
      spent = λ b. ap suc (t.spent b);
    }
  where
    first : (i : ℕ) → i < suc t.repeats → class_of (R (replicate i q) q) ≡ number TdxOperandBusy
    first zero l = e
    first (suc i) l = t.waited i (omega arith)

pub retry_law : RetryLaw
unfolding retry_reply retry_passes
retry_law zero R q = ended zero R q (R [] q) (q ∷ []) refl refl (λ _. refl)
retry_law (suc n) R q =
    let ih = retry_law n (later q R) q in
    elim (cases_Bool (is_busy (R [] q))) [
      | inl t ↦ rw t (again n R q _ _ (eqb-true _ _ t) ih)
      | inr t ↦ rw t (ended (suc n) R q (R [] q) (q ∷ []) refl refl (λ b. absurd (eqb-false _ _ t b)))
    ]

-- a busy reply leaves the pages, so only the last request counts
busy_leaves : (R : Replies) (P : Pages) (q : Request) → is_busy (R [] q) ≡ true → P ≡ taken (R [] q) q P
busy_leaves R P q t = taken_none (R [] q) q P (λ e. let z = eqb-true _ _ t in omega arith)

retry_sound : (n : ℕ) (R : Replies) (P : Pages) (q : Request) → Sounds R P → Sound (retry_reply n R q) q P
unfolding retry_reply
retry_sound zero R P q so = sounds_now R P q so
retry_sound (suc n) R P q so =
    elim (cases_Bool (is_busy (R [] q))) [
      | inl t ↦ rw t (retry_sound n (later q R) P q (rw (← busy_leaves R P q t) at (sounds_later R P q so)))
      | inr t ↦ rw t (sounds_now R P q so)
    ]

retry_pages : (n : ℕ) (R : Replies) (P : Pages) (q : Request) → after R (retry_passes n R q) P ≡ taken (retry_reply n R q) q P
unfolding retry_reply retry_passes after
retry_pages zero R P q = refl
retry_pages (suc n) R P q =
    elim (cases_Bool (is_busy (R [] q))) [
      | inl t ↦ rw t (ap (after (later q R) (retry_passes n (later q R) q)) (sym (busy_leaves R P q t)) ∙ retry_pages n (later q R) P q)
      | inr t ↦ rw t
    ]

pub retry_lawful : Lawful retrying
retry_lawful = record { sound = retry_sound; pages = retry_pages }
