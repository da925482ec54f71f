-- A cap does what its law says, and it is lawful over any host.
use Rattle.std.proofs.Common.{◌≡◌, ℕ, ltb, arith}
use Rattle.std.proofs.lemmas.Bool.{lt-ltb, le-ltb}
use Rattle.tdcall.specs.declared.TdCallError.TheVariants.{TdxPageAlreadyAccepted, TdxPageSizeMismatch}
use Rattle.tdcall.specs.Statuses.{class_of, number, status_of}
use Rattle.host.specs.Pages.{Request, accepting, Pages, taken}
use Rattle.host.specs.Replies.{Replies, after}
use Rattle.host.specs.Laws.{Sound, Sounds}
use Rattle.host.specs.Layers.{Lawful}
use Rattle.host_models.specs.Cap.{cap_reply, cap_passes, capping, CapLaw}
use Rattle.host_models.proofs.Unless.{reply_sound, pages_left}

pub cap_law : CapLaw
cap_law c R (accepting l a) =
    record {
      refused = λ h. rw (lt-ltb c l h);
      unasked = λ h. rw (lt-ltb c l h);
      passed = λ h. rw (le-ltb c l h);
      asked = λ h. rw (le-ltb c l h);
    }

-- size mismatch is neither zero nor already accepted
mismatch : (status_of TdxPageSizeMismatch ≡ 0 → ⊥) × (class_of (status_of TdxPageSizeMismatch) ≡ number TdxPageAlreadyAccepted → ⊥)
mismatch = (λ e. omega arith, λ e. omega arith)

pub cap_lawful : Lawful capping
cap_lawful = record { sound = sound_is; pages = pages_are }
  where
    sound_is : (c : ℕ) (R : Replies) (P : Pages) (q : Request) → Sounds R P → Sound (cap_reply c R q) q P
    sound_is c R P (accepting l a) so = reply_sound (status_of TdxPageSizeMismatch) (ltb c l) (λ _. mismatch) R P (accepting l a) so

    pages_are : (c : ℕ) (R : Replies) (P : Pages) (q : Request) → after R (cap_passes c R q) P ≡ taken (cap_reply c R q) q P
    pages_are c R P (accepting l a) = pages_left (status_of TdxPageSizeMismatch) (ltb c l) (λ _. mismatch) R P (accepting l a)
