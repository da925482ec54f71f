-- A host as it is now, and once it has received requests.
use Rattle.std.specs.Prelude.{ℕ, List, []}
use Rattle.host.specs.Pages.{Request, Pages, taken}
use Rattle.host.specs.Replies.{Replies, Lent, later, since, after}

pub record HostState : Type 0 where
  -- the replies to whatever could come from now on
  pub replies : Replies
  -- the state of each page, by its number
  pub pages : Pages
  -- the bytes that are lent to the host
  pub lent : Lent
  -- what no request changes: its numbers, and the names of the references that it holds
  pub fixed : List ℕ

-- a host that has received one request
abbrev pub received : Request → HostState → HostState
received q s = record { replies = later q s.replies; pages = taken (s.replies [] q) q s.pages; lent = later q s.lent; fixed = s.fixed }

-- and one that has received those of a list, in order
abbrev pub received_all : List Request → HostState → HostState
received_all asked s = record { replies = since asked s.replies; pages = after s.replies asked s.pages; lent = since asked s.lent; fixed = s.fixed }
