-- A cap over any host: a request above its level goes no further.
use Rattle.std.specs.Prelude.{◌≡◌, ℕ, ◌<◌, ◌≤◌, if◌then◌else◌, List, [], ◌∷◌, nat_lt}
use Rattle.tdcall.specs.declared.TdCallError.TheVariants.{TdxPageSizeMismatch}
use Rattle.tdcall.specs.Statuses.{status_of}
use Rattle.host.specs.Pages.{Request, accepting}
use Rattle.host.specs.Replies.{Replies, later}
use Rattle.host.specs.Layers.{Layer, over, passed, layer_replies}

-- the reply of a cap of level c over a host that replies R
abbrev pub cap_reply : ℕ → Replies → Request → ℕ
cap_reply c R (accepting l a) = if nat_lt c l then status_of TdxPageSizeMismatch else R [] (accepting l a)

-- the requests that go on to the host below
abbrev pub cap_passes : ℕ → Replies → Request → List Request
cap_passes c R (accepting l a) = if nat_lt c l then [] else accepting l a ∷ []

-- a cap, whose own state is its level
abbrev pub capping : Layer ℕ
capping = record { reply = cap_reply; passes = cap_passes; next = λ c. c }

abbrev pub cap_replies : ℕ → Replies → Replies
cap_replies = layer_replies capping

-- the replies of the host below afterwards
abbrev pub cap_next : ℕ → Replies → Request → Replies
cap_next c R q = (passed capping (over c R) q).below

-- What a cap of level c does with a request for a block, where r is its reply, and R and S are the replies of the host
-- below before and after it.
pub record CappedAccept (c : ℕ) (R : Replies) (l a r : ℕ) (S : Replies) : Type 0 where
  -- above the level the reply is size mismatch,
  pub refused : c < l → r ≡ status_of TdxPageSizeMismatch
  -- and the host below is not asked
  pub unasked : c < l → S ≡ R
  -- else the reply is that of the host below,
  pub passed : l ≤ c → r ≡ R [] (accepting l a)
  -- which has received this one request
  pub asked : l ≤ c → S ≡ later (accepting l a) R

abbrev pub Capped : ℕ → Replies → Request → ℕ → Replies → Type 0
Capped c R (accepting l a) r S = CappedAccept c R l a r S

abbrev pub CapLaw : Type 0
CapLaw = (c : ℕ) (R : Replies) (q : Request) → Capped c R q (cap_reply c R q) (cap_next c R q)
