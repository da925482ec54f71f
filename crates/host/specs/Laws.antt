-- The laws that every host shows, whatever it replies.
-- That a reply changes no page but those of its block, and a reply other than zero none, is told by `taken`.
use Rattle.std.specs.Prelude.{◌≡◌, ℕ, ◌/◌, ◌%◌, ◌≤◌, true, List}
use Rattle.tdcall.specs.declared.TdCallError.TheVariants.{TdxPageAlreadyAccepted}
use Rattle.tdcall.specs.Statuses.{class_of, number}
use Rattle.host.specs.Pages.{pending, accepted, Pages, Request, accepting, size, covers}
use Rattle.host.specs.Replies.{Replies, after}

-- What a reply to a request for a block says of the pages that it found.
pub record SoundAccept (r l a : ℕ) (P : Pages) : Type 0 where
  -- zero comes only for a level from 0 to 2
  pub low : r ≡ 0 → l ≤ 2
  -- and an address that is a multiple of its size,
  pub aligned : r ≡ 0 → a % size l ≡ 0
  -- all pages of the block being pending
  pub waiting : r ≡ 0 → (p : ℕ) → covers l a p ≡ true → P p ≡ pending
  -- already accepted, at level 0 and a multiple of 4096, means that the page is accepted
  pub already : l ≡ 0 → a % 4096 ≡ 0 → class_of r ≡ number TdxPageAlreadyAccepted → P (a / 4096) ≡ accepted

abbrev pub Sound : ℕ → Request → Pages → Type 0
Sound r (accepting l a) P = SoundAccept r l a P

-- every reply that could ever come is sound of the pages that it then finds
abbrev pub Sounds : Replies → Pages → Type 0
Sounds R P = (l : List Request) (q : Request) → Sound (R l q) q (after R l P)
