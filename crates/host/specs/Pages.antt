-- The pages of a guest's memory, and the requests that accept them.
use Rattle.std.specs.Prelude.{ℕ, ◌+◌, ◌*◌, ◌/◌, ◌^◌, Bool, if◌then◌else◌, ◌&&◌, ◌==◌, nat_le, nat_lt}

-- absent: not given to the guest; pending: given and not yet accepted
pub data Page : Type 0 where
  absent : Page
  pending : Page
  accepted : Page

-- each page by its number: page p holds the 4096 addresses from 4096 * p
abbrev pub Pages : Type 0
Pages = ℕ → Page

-- the addresses of a block: 4 KiB at level 0, 2 MiB at level 1, 1 GiB at level 2
abbrev pub size : ℕ → ℕ
size l = 4096 * 512 ^ l

-- page p lies in the block of level l at address a
abbrev pub covers : ℕ → ℕ → ℕ → Bool
covers l a p = nat_le (a / 4096) p && nat_lt p (a / 4096 + 512 ^ l)

-- what a host may be asked: to accept the block of a level at an address
pub data Request : Type 0 where
  accepting : ℕ → ℕ → Request

-- The pages after reply r to a request: zero makes every page of the block accepted, and nothing else changes a page.
abbrev pub taken : ℕ → Request → Pages → Pages
taken r (accepting l a) P p = if r == 0 && covers l a p then accepted else P p
