-- Inject does what its law says, and it is lawful over any host.
use Rattle.std.proofs.Common.{◌≡◌, ℕ, ◌+◌, ◌≤◌, true, false, ◌⊎◌, List, length, get_or, drop, sym, refl, ap, ◌∙◌, ⊎_elim, add-zero}
use Rattle.std.proofs.lemmas.List.{get_or-drop, drop-drop, drop_all}
use Rattle.std.proofs.lemmas.Bool.{and_from, and_parts, and_left, and_right, not-true, not_from_false, not_from_true, eq-eqb, ne_eqb, eqb-false}
use Rattle.tdcall.specs.declared.TdCallError.TheVariants.{TdxPageAlreadyAccepted}
use Rattle.tdcall.specs.Statuses.{class_of, number}
use Rattle.host.specs.Layers.{Lawful}
use Rattle.host_models.specs.Inject.{next_word, is_reply, injecting, InjectLaw}
use Rattle.host_models.proofs.Unless.{reply_sound, pages_left}

module _ (w : ℕ) where
  pub is_reply_lem : (w ≡ 0 → ⊥) → (class_of w ≡ number TdxPageAlreadyAccepted → ⊥) → is_reply w ≡ true
  is_reply_lem h k = and_from _ _ (not_from_false _ (ne_eqb _ _ h)) (not_from_false _ (ne_eqb _ _ k))

  pub no_reply : (w ≡ 0) ⊎ (class_of w ≡ number TdxPageAlreadyAccepted) → is_reply w ≡ false
  no_reply h = ⊎_elim (λ e. and_left _ _ (not_from_true _ (eq-eqb _ _ e))) (λ e. and_right _ _ (not_from_true _ (eq-eqb _ _ e))) h

  pub reply_parts : is_reply w ≡ true → (w ≡ 0 → ⊥) × (class_of w ≡ number TdxPageAlreadyAccepted → ⊥)
  reply_parts t = let b = and_parts _ _ t in (eqb-false _ _ (not-true _ b.0), eqb-false _ _ (not-true _ b.1))

-- the words that are left when i were used
module _ (ws : List ℕ) (i : ℕ) where
  pub next_at : next_word (drop i ws) ≡ get_or ws i 0
  next_at = get_or-drop i ws 0 0 ∙ ap (λ k. get_or ws k 0) (add-zero i)

  pub left_then : drop (i + 1) ws ≡ drop 1 (drop i ws)
  left_then = sym (drop-drop 1 i ws)

  pub left_none : length ws ≤ i → drop i ws ≡ drop 1 (drop i ws)
  left_none h = let none = drop_all i ws h in none ∙ ap (λ (vs : List ℕ). drop 1 vs) (sym none)

pub inject_law : InjectLaw
inject_law s q =
    record {
      given = λ h k. rw (is_reply_lem _ h k);
      unasked = λ h k. rw (is_reply_lem _ h k);
      passed = λ h. rw (no_reply _ h);
      asked = λ h. rw (no_reply _ h);
      used = refl;
    }

pub inject_lawful : Lawful injecting
inject_lawful = record {
  sound = λ ws R P q so. reply_sound (next_word ws) (is_reply (next_word ws)) (reply_parts (next_word ws)) R P q so;
  pages = λ ws R P q. pages_left (next_word ws) (is_reply (next_word ws)) (reply_parts (next_word ws)) R P q;
}
