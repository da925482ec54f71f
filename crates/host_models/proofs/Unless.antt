-- A request that a layer answers itself, by a word that is neither zero nor already accepted, or passes on.
use Rattle.std.proofs.Common.{◌≡◌, ℕ, Bool, true, false, cond, [], ◌∷◌, sym, refl}
use Rattle.tdcall.specs.declared.TdCallError.TheVariants.{TdxPageAlreadyAccepted}
use Rattle.tdcall.specs.Statuses.{class_of, number}
use Rattle.host.proofs.Soundness.{sounds_now, sound_none, taken_none}
use Rattle.host.specs.Pages.{Request, Pages, taken}
use Rattle.host.specs.Replies.{Replies, after}
use Rattle.host.specs.States.{HostState, received, received_all}
use Rattle.host.specs.Laws.{Sound, Sounds}
use Rattle.host.proofs.Layers.{received_none, received_one}

module _ (w : ℕ) (t : Bool) (own : t ≡ true → (w ≡ 0 → ⊥) × (class_of w ≡ number TdxPageAlreadyAccepted → ⊥)) (R : Replies) (P : Pages) (q : Request) where
  pub reply_sound : Sounds R P → Sound (cond t w (R [] q)) q P
  reply_sound so = by t refl
    where
      by : (b : Bool) → t ≡ b → Sound (cond b w (R [] q)) q P
      by true e = sound_none w q P (own e).0 (own e).1
      by false e = sounds_now R P q so

  pub pages_left : after R (cond t [] (q ∷ [])) P ≡ taken (cond t w (R [] q)) q P
  unfolding after
  pages_left = by t refl
    where
      by : (b : Bool) → t ≡ b → after R (cond b [] (q ∷ [])) P ≡ taken (cond b w (R [] q)) q P
      by true e = taken_none w q P (own e).0
      by false e = refl

-- the reply, and the host below afterwards
module _ (w : ℕ) (t : Bool) (q : Request) (h : HostState) where
  pub own_reply : t ≡ true → w ≡ cond t w (h.replies [] q)
  own_reply e = rw e

  pub own_state : t ≡ true → h ≡ received_all (cond t [] (q ∷ [])) h
  own_state e = rw e (sym (received_none h))

  pub passed_reply : t ≡ false → h.replies [] q ≡ cond t w (h.replies [] q)
  passed_reply e = rw e

  pub passed_state : t ≡ false → received q h ≡ received_all (cond t [] (q ∷ [])) h
  passed_state e = rw e (sym (received_one q h))
