-- Walks made one after the other, and what they do to the pages.
use Rattle.std.proofs.Common.{◌≡◌, ℕ, ◌/◌, ◌⊎◌, List, [], ◌∷◌, sym, refl, ap, ◌∙◌, subst, inl, inr, arith}
use mathlib.Core.List.Memᴰ
use Rattle.host.specs.Pages.{Page, absent, pending, accepted, Pages}
use Rattle.host.specs.Replies.{Replies, since, after}
use Rattle.host.specs.Laws.{Sounds}
use Rattle.host.proofs.Soundness.{sounds_since, after_append}
use Rattle.accept_memory.specs.Promises.{Gained}
use Rattle.accept_memory.proofs.Kept.{promises}
use Rattle.unaccepted_memory.specs.Plans.{Walk, walk_over, requests_of}
use Rattle.unaccepted_memory.specs.Promises.{◌∈◌, Holds, Tidy}
use Rattle.unaccepted_memory.proofs.PlanLaws.{Made}

-- a page that was pending, is accepted, and all of whose addresses are in S
pub record Moved (S : ℕ → Type 0) (P Q : Pages) (p : ℕ) : Type 0 where
  pub was : P p ≡ pending
  pub is : Q p ≡ accepted
  pub ours : (a : ℕ) → a / 4096 ≡ p → S a

abbrev pub Moves : (ℕ → Type 0) → Pages → Pages → Type 0
Moves S P Q = (p : ℕ) → (Q p ≡ P p) ⊎ Moved S P Q p

abbrev is_pending : Page → ℕ
is_pending absent = 0
is_pending pending = 1
is_pending accepted = 0

apart : {A : Type 0} (x : Page) → x ≡ accepted → x ≡ pending → A
apart x p q = let e : ◌≡◌ {A = ℕ} 0 1 = ap is_pending (sym p ∙ q) in absurd (omega arith)

pub moves_on : (S : ℕ → Type 0) (P Q T : Pages) → Moves S P Q → Moves S Q T → Moves S P T
moves_on S P Q T f g p = go (f p) (g p)
  where
    go : (Q p ≡ P p) ⊎ Moved S P Q p → (T p ≡ Q p) ⊎ Moved S Q T p → (T p ≡ P p) ⊎ Moved S P T p
    go (inl x) (inl y) = inl (y ∙ x)
    go (inl x) (inr y) = inr (record { was = sym x ∙ y.was; is = y.is; ours = y.ours })
    go (inr x) (inl y) = inr (record { was = x.was; is = y ∙ x.is; ours = x.ours })
    go (inr x) (inr y) = apart (Q p) x.is y.was

pub moves_more : (S T : ℕ → Type 0) (P Q : Pages) → ((a : ℕ) → S a → T a) → Moves S P Q → Moves T P Q
moves_more S T P Q f g p = go (g p)
  where
    go : (Q p ≡ P p) ⊎ Moved S P Q p → (Q p ≡ P p) ⊎ Moved T P Q p
    go (inl x) = inl x
    go (inr x) = inr (record { was = x.was; is = x.is; ours = λ a e. f a (x.ours a e) })

one_moves : (S : ℕ → Type 0) (w : Walk) (R : Replies) (P : Pages) → Sounds R P → w ≡ walk_over R w.span → ((a : ℕ) → Holds w.span a → S a)
    → Moves S P (after R w.requests P)
one_moves S w R P so e f p = go (rw (sym (ap (λ (v : Walk). v.requests) e)) at ((promises w.span.start w.span.end R P so).gained p))
  where
    go : (after R w.requests P p ≡ P p) ⊎ Gained w.span.start w.span.end P (after R w.requests P) p
        → (after R w.requests P p ≡ P p) ⊎ Moved S P (after R w.requests P) p
    go (inl x) = inl x
    go (inr x) = inr (record { was = x.was; is = x.is; ours = λ a q. f a (omega (arith, x.from), omega (arith, x.to)) })

pub after_none : (R : Replies) (P : Pages) (p : ℕ) → after R [] P p ≡ P p
unfolding after
after_none R P p = refl

pub walks_move : (S : ℕ → Type 0) (ws : List Walk) (R : Replies) (P : Pages) → Sounds R P → Made R ws
    → ((w : Walk) → w ∈ ws → (a : ℕ) → Holds w.span a → S a) → Moves S P (after R (requests_of ws) P)
walks_move S [] R P so m f = λ p. inl (after_none R P p)
walks_move S (w ∷ ws) R P so m f =
    rw (after_append w.requests (requests_of ws) R P) (
    moves_on S P (after R w.requests P) _
    (one_moves S w R P so m.0 (f w (Memᴰ.head refl)))
    (walks_move S ws (since w.requests R) (after R w.requests P) (sounds_since R P w.requests so) m.1 (λ v i. f v (Memᴰ.tail i))))

-- each walk asks only for blocks of its span, and for none twice
one_tidy : (w : Walk) (R : Replies) (P : Pages) → Sounds R P → w ≡ walk_over R w.span → Tidy w
one_tidy w R P so e =
    let k = promises w.span.start w.span.end R P so in
    let q = sym (ap (λ (v : Walk). v.requests) e) in
    record { once = rw q at k.once; inside = rw q at k.inside }

pub tidy : (ws : List Walk) (R : Replies) (P : Pages) → Sounds R P → Made R ws → (w : Walk) → w ∈ ws → Tidy w
tidy [] R P so m w i = elim i [ ]
tidy (v ∷ ws) R P so m w (Memᴰ.head e) = subst Tidy (sym e) (one_tidy v R P so m.0)
tidy (v ∷ ws) R P so m w (Memᴰ.tail i) = tidy ws (since v.requests R) (after R v.requests P) (sounds_since R P v.requests so) m.1 w i
