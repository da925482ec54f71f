-- A layer over any host: what it does with each request, and what is told of it then.
use Rattle.std.specs.Prelude.{◌≡◌, ℕ, List, ◌++◌}
use Rattle.host.specs.Pages.{Request, Pages, taken}
use Rattle.host.specs.Replies.{Replies, Lent, since, after, unrolled, passed_on}
use Rattle.host.specs.States.{HostState}
use Rattle.host.specs.Laws.{Sound, Sounds}

-- what a layer does with one request, by its own state and the replies of the host below
pub record Layer (S : Type 0) : Type 0 where
  -- the reply that it gives,
  pub reply : S → Replies → Request → ℕ
  -- the requests that it makes of the host below,
  pub passes : S → Replies → Request → List Request
  -- and its own state afterwards
  pub next : S → S

-- a layer's own state, and the replies of the host below
pub record Over (S : Type 0) : Type 0 where
  pub own : S
  pub below : Replies

abbrev pub over : {S : Type 0} → S → Replies → Over S
over s R = record { own = s; below = R }

abbrev pub passed : {S : Type 0} → Layer S → Over S → Request → Over S
passed y o q = over (y.next o.own) (since (y.passes o.own o.below q) o.below)

-- the replies of a layer in state s over a host that replies R
abbrev pub layer_replies : {S : Type 0} → Layer S → S → Replies → Replies
layer_replies y s R = unrolled (λ o. y.reply o.own o.below) (passed y) (over s R)

-- the bytes that are lent to the host below, M, by the requests that come to the layer
abbrev pub layer_lent : {S : Type 0} → Layer S → S → Replies → Lent → Lent
layer_lent y s R M l = M (passed_on (λ o. y.passes o.own o.below) (passed y) (over s R) l)

-- a layer with some numbers that it keeps for good, over a host: it has the pages of the host below
abbrev pub layered : {S : Type 0} → Layer S → S → List ℕ → HostState → HostState
layered y s numbers h = record {
  replies = layer_replies y s h.replies;
  pages = h.pages;
  lent = layer_lent y s h.replies h.lent;
  fixed = numbers ++ h.fixed;
}

-- What a layer owes over a host whose replies R are sound of its pages P: its own reply is sound of them, and what the
-- requests that it makes leave of the pages is what its reply says.
pub record Lawful {S : Type 0} (y : Layer S) : Type 0 where
  pub sound : (s : S) (R : Replies) (P : Pages) (q : Request) → Sounds R P → Sound (y.reply s R q) q P
  pub pages : (s : S) (R : Replies) (P : Pages) (q : Request) → after R (y.passes s R q) P ≡ taken (y.reply s R q) q P
