-- What all hosts share: soundness of every reply from that of one, and lists of requests one after the other.
use Rattle.std.proofs.Common.{◌≡◌, ℕ, Bool, true, false, cond, ◌&&◌, eqb, List, [], ◌∷◌, ◌++◌, refl, ap, append_assoc}
use mathlib.Core.Path.{fun_ext}
use Rattle.std.proofs.lemmas.Bool.{ne_eqb}
use Rattle.tdcall.specs.declared.TdCallError.TheVariants.{TdxPageAlreadyAccepted}
use Rattle.tdcall.specs.Statuses.{class_of, number}
use Rattle.host.specs.Pages.{Page, accepted, Pages, Request, accepting, taken, covers}
use Rattle.host.specs.Replies.{Replies, later, since, after, unrolled}
use Rattle.host.specs.Laws.{Sound, Sounds}

pub sounds_now : (R : Replies) (P : Pages) (q : Request) → Sounds R P → Sound (R [] q) q P
unfolding after
sounds_now R P q s = s [] q

pub sounds_later : (R : Replies) (P : Pages) (q : Request) → Sounds R P → Sounds (later q R) (taken (R [] q) q P)
unfolding after
sounds_later R P q s m = s (q ∷ m)

pub sounds_since : (R : Replies) (P : Pages) (l : List Request) → Sounds R P → Sounds (since l R) (after R l P)
unfolding after
sounds_since R P [] s = s
sounds_since R P (q ∷ l) s = sounds_since (later q R) (taken (R [] q) q P) l (sounds_later R P q s)

-- of a host that goes from state to state, one request at a time
pub sounds_by : {S : Type 0} (replies : S → Replies) (pages : S → Pages) (next : S → Request → S)
    → ((s : S) (q : Request) → Sound (replies s [] q) q (pages s))
    → ((s : S) (q : Request) → replies (next s q) ≡ later q (replies s))
    → ((s : S) (q : Request) → pages (next s q) ≡ taken (replies s [] q) q (pages s))
    → (s : S) → Sounds (replies s) (pages s)
unfolding after
sounds_by replies pages next now later-is after_is s [] q = now s q
sounds_by replies pages next now later-is after_is s (q₀ ∷ l) q =
    let ih = sounds_by replies pages next now later-is after_is (next s q₀) l q in
    rw (later-is s q₀, after_is s q₀) at ih

-- a reply that is neither zero nor already accepted says nothing of the pages
pub sound_none : (r : ℕ) (q : Request) (P : Pages) → (r ≡ 0 → ⊥) → (class_of r ≡ number TdxPageAlreadyAccepted → ⊥) → Sound r q P
sound_none r (accepting l a) P h k =
    record { low = λ e. absurd (h e); aligned = λ e. absurd (h e); waiting = λ e. absurd (h e); already = λ _ _ e. absurd (k e) }

-- a reply other than zero leaves the pages
pub taken_none : (r : ℕ) (q : Request) (P : Pages) → (r ≡ 0 → ⊥) → P ≡ taken r q P
taken_none r (accepting l a) P h = fun_ext (λ p. rw (ne_eqb r 0 h))

cond_accepted : (b : Bool) (x : Page) → x ≡ accepted → cond b accepted x ≡ accepted
cond_accepted true x e = refl
cond_accepted false x e = e

-- an accepted page stays accepted
pub taken_keeps : (r : ℕ) (q : Request) (P : Pages) (p : ℕ) → P p ≡ accepted → taken r q P p ≡ accepted
taken_keeps r (accepting l a) P p e = cond_accepted (eqb r 0 && covers l a p) (P p) e

pub after_keeps : (R : Replies) (l : List Request) (P : Pages) (p : ℕ) → P p ≡ accepted → after R l P p ≡ accepted
unfolding after
after_keeps R [] P p e = e
after_keeps R (q ∷ l) P p e = after_keeps (later q R) l (taken (R [] q) q P) p (taken_keeps (R [] q) q P p e)

-- one list of requests and then another
pub since_append : {A : Type 0} (l m : List Request) (R : List Request → A) → since (l ++ m) R ≡ since m (since l R)
since_append l m R = fun_ext (λ k. ap R (append_assoc l m k))

pub after_append : (l m : List Request) (R : Replies) (P : Pages) → after R (l ++ m) P ≡ after (since l R) m (after R l P)
unfolding after
after_append [] m R P = refl
after_append (q ∷ l) m R P = after_append l m (later q R) (taken (R [] q) q P)

-- what goes from state to state is told by its state now, and later by its next one
module _ {S A : Type 0} (f : S → A) (next : S → Request → S) (s : S) where
  pub unrolled_now : unrolled f next s [] ≡ f s
  unfolding unrolled
  unrolled_now = refl

  pub unrolled_later : (q : Request) → unrolled f next (next s q) ≡ later q (unrolled f next s)
  unfolding unrolled
  unrolled_later q = fun_ext (λ l. refl)
