-- How a walk fails: at which address, and by which reply.
use Rattle.std.proofs.Common.{◌≡◌, ℕ, zero, suc, ◌+◌, List, [], ◌∷◌, ◌++◌, Err, Result, sym, refl, ap, ◌∙◌, subst, arith}
use Rattle.tdcall.specs.Statuses.{named, class_of}
use Rattle.fault.specs.Refusals.{Told}
use Rattle.host.specs.Pages.{Request, accepting, size}
use Rattle.host.specs.Replies.{Replies, later}
use Rattle.accept_memory.specs.Walks.{State, asking, finished, misaligned, refused, View, Verdict, onward, lower, stop, verdict, reply_class, turned, replied, arrive, ended, asked, answer_in, misaligned_at, refused_at}
use Rattle.accept_memory.specs.Promises.{Still}
use Rattle.accept_memory.proofs.Places.{Placed, arrive_by}
use Rattle.accept_memory.proofs.Outcomes.{asks, still, asks_or_still, ended_step, ended_still, asked_step, asked_still, replied_is, replied_placed}
use Rattle.accept_memory.proofs.Courses.{ended_none}

-- the fault of a walk that has stopped, by its state
pub data Failing (s : State) (w : View) (t : Told) : Type 0 where
  at_misaligned : s ≡ misaligned → t ≡ misaligned_at w.next w.count → Failing s w t
  at_refused : (l : ℕ) → s ≡ refused l → t ≡ refused_at (named (class_of w.status)) w.status l w.next w.count → Failing s w t

err_same : (t u : Told) → ◌≡◌ {A = Result ℕ Told} (Err t) (Err u) → u ≡ t
err_same t u e = cc

pub failing : (s : State) (w : View) (t : Told) → Still s → answer_in s w ≡ Err t → Failing s w t
failing (asking l) w t h e = absurd h
failing finished w t h e = let z : ◌≡◌ {A = ℕ} 0 1 = cc in absurd (omega arith)
failing misaligned w t h e = at_misaligned refl (err_same _ _ e)
failing (refused l) w t h e = at_refused l refl (err_same _ _ e)

-- the last request of a walk that ended in w at level l, and the reply to it
pub record LastAsked (R : Replies) (qs : List Request) (w : View) (l : ℕ) : Type 0 where
  pub earlier : List Request
  pub request : qs ≡ earlier ++ (accepting l w.next ∷ [])
  pub reply : w.status ≡ R earlier (accepting l w.next)
  pub not_zero : w.status ≡ 0 → ⊥

one_more : (R : Replies) (q : Request) (qs : List Request) (w : View) (l : ℕ) → LastAsked (later q R) qs w l → LastAsked R (q ∷ qs) w l
one_more R q qs w l t = record { earlier = q ∷ t.earlier; request = ap (λ (k : List Request). q ∷ k) t.request; reply = t.reply; not_zero = t.not_zero }

-- no reply has ended the walk
abbrev pub Unrefused : State → Type 0
Unrefused (asking l) = Unit {0}
Unrefused finished = Unit {0}
Unrefused misaligned = Unit {0}
Unrefused (refused l) = ⊥

pub arrive_unrefused : (a e : ℕ) → Unrefused (arrive a e)
arrive_unrefused a e = arrive_by a e Unrefused (λ _. tt) (λ _ _. tt) (λ _ _. tt)

never : (s : State) (l : ℕ) → Unrefused s → s ≡ refused l → ⊥
never s l u e = subst Unrefused e u

-- a reply that ends a walk is not zero
stop_not_zero : (l r : ℕ) → verdict l (reply_class r) ≡ stop → r ≡ 0 → ⊥
stop_not_zero l r e z =
    let k : verdict l (reply_class 0) ≡ stop = ap (λ (x : ℕ). verdict l (reply_class x)) (sym z) ∙ e in
    let f : ◌≡◌ {A = ℕ} 0 1 = cc in omega arith

same_refused : (l m : ℕ) → refused m ≡ refused l → m ≡ l
same_refused l m e = cc

ended_here : (k : ℕ) (R : Replies) (w w' : View) (l m : ℕ) → w' ≡ turned stop m (R [] (accepting m w.next)) w → verdict m (reply_class (R [] (accepting m w.next))) ≡ stop
    → (ended k (later (accepting m w.next) R) w').state ≡ refused l
    → LastAsked R (accepting m w.next ∷ asked k (later (accepting m w.next) R) w') (ended k (later (accepting m w.next) R) w') l
ended_here k R w w' l m e v s =
    let q = accepting m w.next in
    let here : w'.state ≡ refused m = ap (λ (x : View). x.state) e in
    let quiet : Still w'.state = subst Still (sym here) tt in
    let end = ended_still k (later q R) w' quiet in
    let s' : w'.state ≡ refused l = rw end at s in
    let level : m ≡ l = same_refused l m (sym here ∙ s') in
    let next_is : w'.next ≡ w.next = ap (λ (x : View). x.next) e in
    let status_is : w'.status ≡ R [] q = ap (λ (x : View). x.status) e in
    rw (end, asked_still k (later q R) w' quiet, ← level)
    (record {
      earlier = [];
      request = rw next_is;
      reply = rw next_is status_is;
      not_zero = λ z. stop_not_zero m (R [] q) v (sym status_is ∙ z);
    })

-- a walk that a reply ended: its last request was for the block at its next address, and the reply to it was not zero
pub refused_last : (k : ℕ) (R : Replies) (w : View) (l : ℕ) → Placed w → Unrefused w.state → (ended k R w).state ≡ refused l → LastAsked R (asked k R w) (ended k R w) l
refused_last zero R w l p u s = absurd (never w.state l u (rw (ended_none R w) at s))
refused_last (suc k) R w l p u s =
    elim (asks_or_still w.state) [
      | asks m h ↦
          let q = accepting m w.next in
          let r = R [] q in
          let s' : (ended k (later q R) (replied w r)).state ≡ refused l = rw (ended_step k R w m h) at s in
          let ih : Unrefused (replied w r).state → LastAsked (later q R) (asked k (later q R) (replied w r)) (ended k (later q R) (replied w r)) l =
          λ n. refused_last k (later q R) (replied w r) l (replied_placed w m r h p) n s' in
          rw (asked_step k R w m h, ended_step k R w m h) (by k R w l m (replied w r) (verdict m (reply_class r)) refl (replied_is w m r h p) s' ih)
      | still h ↦ absurd (never w.state l u (rw (ended_still (suc k) R w h) at s))
    ]
  where
    by : (k : ℕ) (R : Replies) (w : View) (l m : ℕ) (w' : View) (v : Verdict) → verdict m (reply_class (R [] (accepting m w.next))) ≡ v → w' ≡ turned v m (R [] (accepting m w.next)) w
        → (ended k (later (accepting m w.next) R) w').state ≡ refused l
        → (Unrefused w'.state → LastAsked (later (accepting m w.next) R) (asked k (later (accepting m w.next) R) w') (ended k (later (accepting m w.next) R) w') l)
        → LastAsked R (accepting m w.next ∷ asked k (later (accepting m w.next) R) w') (ended k (later (accepting m w.next) R) w') l
    by k R w l m w' onward v e s ih =
        one_more R (accepting m w.next) _ _ l (ih (subst Unrefused (sym (ap (λ (x : View). x.state) e)) (arrive_unrefused (w.next + size m) w.end)))
    by k R w l m w' lower v e s ih = one_more R (accepting m w.next) _ _ l (ih (subst Unrefused (sym (ap (λ (x : View). x.state) e)) tt))
    by k R w l m w' stop v e s ih = ended_here k R w w' l m e v s
