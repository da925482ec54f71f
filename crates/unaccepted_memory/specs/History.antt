-- Histories: calls on one table, its image and one host, one after the other.
use Rattle.std.specs.Prelude.{◌≡◌, ℕ, ◌<◌, ◌≤◌, List, [], ◌∷◌, Some, None, Ok, Err, Option, Result}
use Rattle.fault.specs.Refusals.{Told}
use Rattle.host.specs.Pages.{Pages}
use Rattle.host.specs.Replies.{Replies, since, after}
use Rattle.bitmap.specs.Marks.{marked}
use Rattle.efi_table.specs.declared.layout.Range.{Range}
use Rattle.efi_table.specs.Shapes.{Shape}
use Rattle.unaccepted_memory.specs.Plans.{Walk, requests_of, Outcome}
use Rattle.unaccepted_memory.specs.Calls.{bitmap_of, inner_units, register_range, accept_range, claim_next_pending_run, settle_claim, restore_pending_range}

-- A table is registered in until it is built. A table that was found is built.
pub data Phase : Type 0 where
  being_registered : Phase
  is_built : Phase

-- what there is between two calls
pub record Moment : Type 0 where
  pub phase : Phase
  pub image : List ℕ
  pub pages : Pages
  pub replies : Replies
  -- the addresses of the open claims
  pub claims : List Range

-- a call, with the range that is registered, the window, or the addresses of the claim that is handed in
pub data Call : Type 0 where
  register : Range → Call
  accept : Range → Call
  claim : Range → Call
  settle : Range → Call
  restore : Range → Call

-- what a call answers: the number of requests where it walks, the addresses of a claim or none, that a claim is restored; or
-- a fault
pub data Answer : Type 0 where
  counted : ℕ → Answer
  claimed : Range → Answer
  none : Answer
  restored : Answer
  refused : Told → Answer

abbrev pub by_count : Result ℕ Told → Answer
by_count (Ok n) = counted n
by_count (Err t) = refused t

abbrev pub by_claim : Result (Option Range) Told → Answer
by_claim (Ok (Some c)) = claimed c
by_claim (Ok None) = none
by_claim (Err t) = refused t

abbrev pub by_restoring : Result (Unit {0}) Told → Answer
by_restoring (Ok x) = restored
by_restoring (Err t) = refused t

pub record Event : Type 0 where
  pub call : Call
  pub answer : Answer
  pub walks : List Walk

-- The call e leads from m to n and comes to an outcome: that is the answer, the image after it is the outcome's, and what
-- reaches the host are the requests of the outcome's walks.
pub record Comes {A : Type 0} (m : Moment) (e : Event) (n : Moment) (by : Result A Told → Answer) (o : Outcome A) : Type 0 where
  pub answer : e.answer ≡ by o.answer
  pub walks : e.walks ≡ o.walks
  pub image : n.image ≡ o.words
  pub replies : n.replies ≡ since (requests_of o.walks) m.replies
  pub pages : n.pages ≡ after m.replies (requests_of o.walks) m.pages
  pub phase : n.phase ≡ m.phase

-- ds is cs with one c taken away
pub data Without (c : Range) : List Range → List Range → Type 0 where
  top : {cs : List Range} → Without c (c ∷ cs) cs
  below : {d : Range} {cs ds : List Range} → Without c cs ds → Without c (d ∷ cs) (d ∷ ds)

-- the open claims cs become ds by the answer of claiming
abbrev pub Opened : Answer → List Range → List Range → Type 0
Opened (claimed c) cs ds = Without c ds cs
Opened (counted n) cs ds = ds ≡ cs
Opened none cs ds = ds ≡ cs
Opened restored cs ds = ds ≡ cs
Opened (refused t) cs ds = ds ≡ cs

-- the open claims are ds once claim c was handed in, the others being cs: a refusal hands it back, any other answer spends it
abbrev pub Spent : Answer → Range → List Range → List Range → Type 0
Spent (refused t) c cs ds = Without c ds cs
Spent (counted n) c cs ds = ds ≡ cs
Spent (claimed d) c cs ds = ds ≡ cs
Spent none c cs ds = ds ≡ cs
Spent restored c cs ds = ds ≡ cs

-- unit u is marked, and lies between the edges of a range
pub record Overlapped (h : Shape) (img : List ℕ) (s : Range) (u : ℕ) : Type 0 where
  pub mark : marked (bitmap_of h img) u ≡ 1
  pub from : (inner_units h s).first ≤ u
  pub to : u < (inner_units h s).behind

-- Registering, before the table is built. Which marked unit a refusal by 3 names is free.
pub record Registers (h : Shape) (m : Moment) (e : Event) (n : Moment) : Type 0 where
  pub range : Range
  pub unit : ℕ
  pub phase : m.phase ≡ being_registered
  pub call : e.call ≡ register range
  pub comes : Comes m e n by_count (register_range h m.image m.replies range unit)
  pub overlap : (t : Told) → e.answer ≡ refused t → t.refusal ≡ 3 → Overlapped h m.image range unit
  pub claims : n.claims ≡ m.claims

pub record Accepts (h : Shape) (m : Moment) (e : Event) (n : Moment) : Type 0 where
  pub window : Range
  pub phase : m.phase ≡ is_built
  pub call : e.call ≡ accept window
  pub comes : Comes m e n by_count (accept_range h m.image m.replies window)
  pub claims : n.claims ≡ m.claims

-- Claiming opens a claim if it answers one.
pub record Claims (h : Shape) (m : Moment) (e : Event) (n : Moment) : Type 0 where
  pub window : Range
  pub phase : m.phase ≡ is_built
  pub call : e.call ≡ claim window
  pub comes : Comes m e n by_claim (claim_next_pending_run h m.image window)
  pub claims : Opened e.answer m.claims n.claims

-- Only an open claim can be handed in.
pub record Settles (h : Shape) (m : Moment) (e : Event) (n : Moment) : Type 0 where
  pub handed : Range
  pub others : List Range
  pub phase : m.phase ≡ is_built
  pub call : e.call ≡ settle handed
  pub comes : Comes m e n by_count (settle_claim h m.image m.replies handed)
  pub in_hand : Without handed m.claims others
  pub claims : Spent e.answer handed others n.claims

pub record Restores (h : Shape) (m : Moment) (e : Event) (n : Moment) : Type 0 where
  pub handed : Range
  pub others : List Range
  pub phase : m.phase ≡ is_built
  pub call : e.call ≡ restore handed
  pub comes : Comes m e n by_restoring (restore_pending_range h m.image handed)
  pub in_hand : Without handed m.claims others
  pub claims : Spent e.answer handed others n.claims

-- the call e leads from m to n
pub data Step (h : Shape) (m : Moment) (e : Event) (n : Moment) : Type 0 where
  registers : Registers h m e n → Step h m e n
  accepts : Accepts h m e n → Step h m e n
  claims : Claims h m e n → Step h m e n
  settles : Settles h m e n → Step h m e n
  restores : Restores h m e n → Step h m e n

-- A table being registered is built, which changes neither image nor host.
pub record Builds (m n : Moment) : Type 0 where
  pub before : m.phase ≡ being_registered
  pub after : n.phase ≡ is_built
  pub image : n.image ≡ m.image
  pub pages : n.pages ≡ m.pages
  pub replies : n.replies ≡ m.replies
  pub claims : n.claims ≡ m.claims

-- the calls es, one after the other, lead from the first moment to the last
pub data History (h : Shape) : List Event → Moment → Moment → Type 0 where
  begun : {m : Moment} → History h [] m m
  built : {es : List Event} {m n o : Moment} → Builds m n → History h es n o → History h es m o
  called : {e : Event} {es : List Event} {m n o : Moment} → Step h m e n → History h es n o → History h (e ∷ es) m o
