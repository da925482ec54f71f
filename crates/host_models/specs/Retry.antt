-- Retry over any host: a busy reply is followed by the same request again, up to n times, and the last reply is given.
use Rattle.std.specs.Prelude.{◌≡◌, ℕ, zero, suc, ◌+◌, ◌<◌, ◌≤◌, Bool, if◌then◌else◌, List, [], ◌∷◌, replicate, ◌==◌}
use Rattle.tdcall.specs.declared.TdCallError.TheVariants.{TdxOperandBusy}
use Rattle.tdcall.specs.Statuses.{class_of, number}
use Rattle.host.specs.Pages.{Request}
use Rattle.host.specs.Replies.{Replies, later}
use Rattle.host.specs.Layers.{Layer, layer_replies}

abbrev pub is_busy : ℕ → Bool
is_busy r = class_of r == number TdxOperandBusy

-- the reply that is given, with n more requests allowed, over a host that replies R
unfoldable pub retry_reply : ℕ → Replies → Request → ℕ
retry_reply zero R q = R [] q
retry_reply (suc n) R q = if is_busy (R [] q) then retry_reply n (later q R) q else R [] q

-- the requests that go on to the host below
unfoldable pub retry_passes : ℕ → Replies → Request → List Request
retry_passes zero R q = q ∷ []
retry_passes (suc n) R q = q ∷ (if is_busy (R [] q) then retry_passes n (later q R) q else [])

-- a retry, whose own state is how many times it may ask again
abbrev pub retrying : Layer ℕ
retrying = record { reply = retry_reply; passes = retry_passes; next = λ n. n }

abbrev pub retry_replies : ℕ → Replies → Replies
retry_replies = layer_replies retrying

-- What becomes of one request, where r is the reply given, R are the replies of the host below before, and qs the requests
-- that it receives.
pub record Retried (n : ℕ) (R : Replies) (q : Request) (r : ℕ) (qs : List Request) : Type 0 where
  -- it is made again so many times, n at most
  pub repeats : ℕ
  pub bounded : repeats ≤ n
  -- the host below has received it once and those times again, and nothing else
  pub received : qs ≡ replicate (repeats + 1) q
  -- every reply before the last was busy
  pub waited : (i : ℕ) → i < repeats → class_of (R (replicate i q) q) ≡ number TdxOperandBusy
  -- the last reply is given
  pub last : r ≡ R (replicate repeats q) q
  -- and it is busy only if no request was left
  pub spent : class_of r ≡ number TdxOperandBusy → repeats ≡ n

abbrev pub RetryLaw : Type 0
RetryLaw = (n : ℕ) (R : Replies) (q : Request) → Retried n R q (retry_reply n R q) (retry_passes n R q)
