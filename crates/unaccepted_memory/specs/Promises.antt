-- What every history keeps, over every host.
use Rattle.std.specs.Prelude.{◌≡◌, ℕ, ◌+◌, ◌/◌, ◌%◌, ◌<◌, ◌≤◌, true, ◌⊎◌, List, [], ◌∷◌, ◌++◌, length, take, drop, ◌≢◌}
use mathlib.Core.List.{Memᴰ}
use Rattle.fault.specs.Refusals.{Told}
use Rattle.host.specs.Pages.{pending, accepted, Request}
use Rattle.host.specs.Replies.{since, after}
use Rattle.host.specs.Requests.{Every, Once}
use Rattle.host.specs.Laws.{Sounds}
use Rattle.accept_memory.specs.Promises.{Inside}
use Rattle.bitmap.specs.Marks.{marked, zeroed}
use Rattle.efi_table.specs.declared.layout.Range.{Range}
use Rattle.efi_table.specs.Shapes.{Shape, unit_at, bitmap_end}
use Rattle.efi_table.specs.Images.{is_image}
use Rattle.unaccepted_memory.specs.Plans.{Walk, requests_of}
use Rattle.unaccepted_memory.specs.Calls.{bitmap_of}
use Rattle.unaccepted_memory.specs.History.{being_registered, is_built, Moment, Call, register, accept, claim, settle, restore, Answer, counted, claimed, none, restored, refused, Event, Step, Builds, History}

infix 4 ◌∈◌
abbrev pub ◌∈◌ : {A : Type 0} → A → List A → Type 0
x ∈ l = Memᴰ x l

-- address a is one of a range
abbrev pub Holds : Range → ℕ → Type 0
Holds s a = (s.start ≤ a) × (a < s.end)

-- address a is one of unit k
abbrev pub InUnit : Shape → ℕ → ℕ → Type 0
InUnit h k a = (unit_at h k ≤ a) × (a < unit_at h (k + 1))

-- address a lies in a unit that the words mark
abbrev pub Marked : Shape → List ℕ → ℕ → Type 0
Marked h ws a = (k : ℕ) × (marked ws k ≡ 1) × InUnit h k a

-- address a lies in an open claim
abbrev pub Claimed : List Range → ℕ → Type 0
Claimed cs a = (c : Range) × (c ∈ cs) × Holds c a

-- A history starts with a table just zeroed, in which ranges are then registered, or with one just found.
pub data Fresh (h : Shape) (m : Moment) : Type 0 where
  just_zeroed : m.phase ≡ being_registered → h.base % h.unit ≡ 0 → bitmap_of h m.image ≡ zeroed (bitmap_of h m.image) → Fresh h m
  just_found : m.phase ≡ is_built → Fresh h m

-- The image is the table's, no claim is open, and the host shows the interface's laws. Nothing else is asked of the host.
pub record Lawful (h : Shape) (m : Moment) : Type 0 where
  pub unit : 0 < h.unit
  pub words : h.length % 8 ≡ 0
  pub image : is_image h m.image ≡ true
  pub fresh : Fresh h m
  pub claims : m.claims ≡ []
  pub host : Sounds m.replies m.pages

-- a lies in the range that is registered by a call
abbrev pub HandedTo : Event → ℕ → Type 0
HandedTo e a = (s : Range) × (e.call ≡ register s) × Holds s a

-- the call succeeded, with a number of requests
abbrev pub Succeeded : Event → Type 0
Succeeded e = (n : ℕ) × (e.answer ≡ counted n)

-- a lies in a range handed to registering, whatever came of it; in one whose registering succeeded
abbrev pub Handed : List Event → ℕ → Type 0
Handed es a = (e : Event) × (e ∈ es) × HandedTo e a

abbrev pub Registered : List Event → ℕ → Type 0
Registered es a = (e : Event) × (e ∈ es) × HandedTo e a × Succeeded e

-- Owed are the addresses marked at the start, and those of each range whose registering succeeded.
abbrev pub Owed : Shape → Moment → List Event → ℕ → Type 0
Owed h start es a = Marked h (bitmap_of h start.image) a ⊎ Registered es a

-- an address in custody: in an accepted page, in a marked unit, or in an open claim
pub data Safe (h : Shape) (m : Moment) (a : ℕ) : Type 0 where
  accepted_page : m.pages (a / 4096) ≡ accepted → Safe h m a
  marked_unit : Marked h (bitmap_of h m.image) a → Safe h m a
  open_claim : Claimed m.claims a → Safe h m a

-- a page that was pending, is accepted, and of which every address was marked at the start or handed to registering
pub record Changed (h : Shape) (start : Moment) (es : List Event) (now : Moment) (p : ℕ) : Type 0 where
  pub was : start.pages p ≡ pending
  pub is : now.pages p ≡ accepted
  pub ours : (a : ℕ) → a / 4096 ≡ p → Marked h (bitmap_of h start.image) a ⊎ Handed es a

-- the count that an answer gives; a call that doesn't walk adds 0
abbrev pub count_in : Answer → ℕ
count_in (counted n) = n
count_in (claimed c) = 0
count_in none = 0
count_in restored = 0
count_in (refused t) = t.count

-- the sum of the counts answered
abbrev pub total : List Event → ℕ
total [] = 0
total (e ∷ es) = count_in e.answer + total es

-- the requests of all walks, in order
abbrev pub requests_in : List Event → List Request
requests_in [] = []
requests_in (e ∷ es) = requests_of e.walks ++ requests_in es

-- no request of a walk comes twice, and each is for a block that lies wholly in the walk's span
pub record Tidy (w : Walk) : Type 0 where
  pub once : Once w.requests
  pub inside : Every (Inside w.span.start w.span.end) w.requests

pub record Kept (h : Shape) (start : Moment) (es : List Event) (now : Moment) : Type 0 where
  -- every owed address is in custody
  pub custody : (a : ℕ) → Owed h start es a → Safe h now a
  -- a page is as at the start, or was pending, is accepted, and was marked at the start or handed to registering, all of it
  pub confined : (p : ℕ) → (now.pages p ≡ start.pages p) ⊎ Changed h start es now p
  -- the counts answered add up to the number of requests of all walks
  pub counts : total es ≡ length (requests_in es)
  -- the host has received exactly these, in order
  pub received : now.replies ≡ since (requests_in es) start.replies
  pub pages : now.pages ≡ after start.replies (requests_in es) start.pages
  -- no walk asks twice for a block, nor for one that is not wholly in its span
  pub walks : (e : Event) → e ∈ es → (w : Walk) → w ∈ e.walks → Tidy w
  -- the image stays the table's, so no call is refused by 6; header and words behind the bitmap stay
  pub image : is_image h now.image ≡ true
  pub never_wrong : (e : Event) (t : Told) → e ∈ es → e.answer ≡ refused t → t.refusal ≢ 6
  pub header : take 3 now.image ≡ take 3 start.image
  pub behind : drop (bitmap_end h) now.image ≡ drop (bitmap_end h) start.image

-- A history is never stuck: from a moment with the table's image, each call that the phase allows leads on to another.
abbrev pub Possible : Shape → Moment → Call → Type 0
Possible h m c = (e : Event) × (n : Moment) × (e.call ≡ c) × Step h m e n

pub record GoesOn (h : Shape) (m : Moment) : Type 0 where
  pub registering : m.phase ≡ being_registered → (s : Range) → Possible h m (register s)
  pub building : m.phase ≡ being_registered → (n : Moment) × Builds m n
  pub accepting : m.phase ≡ is_built → (w : Range) → Possible h m (accept w)
  pub claiming : m.phase ≡ is_built → (w : Range) → Possible h m (claim w)
  -- and each claim that is open can be settled and can be restored
  pub settling : m.phase ≡ is_built → (c : Range) → c ∈ m.claims → Possible h m (settle c)
  pub restoring : m.phase ≡ is_built → (c : Range) → c ∈ m.claims → Possible h m (restore c)

abbrev pub HistoryGoesOn : Type 0
HistoryGoesOn = (h : Shape) (m : Moment) → is_image h m.image ≡ true → GoesOn h m

-- no two claims have an address in common
abbrev pub Disjoint : List Range → Type 0
Disjoint [] = Unit {0}
Disjoint (c ∷ cs) = ((a : ℕ) → Holds c a → Claimed cs a → ⊥) × Disjoint cs

-- What is claimed is in one place only: in no marked unit, and in no other open claim.
pub record Single (h : Shape) (m : Moment) : Type 0 where
  pub unmarked : (a : ℕ) → Claimed m.claims a → Marked h (bitmap_of h m.image) a → ⊥
  pub disjoint : Disjoint m.claims

abbrev pub ClaimsSingle : Type 0
ClaimsSingle = (h : Shape) (start now : Moment) (es : List Event) → Lawful h start → History h es start now → Single h now

-- Every history from a lawful start keeps all promises.
abbrev pub HistoryKeeps : Type 0
HistoryKeeps = (h : Shape) (start now : Moment) (es : List Event) → Lawful h start → History h es start now → Kept h start es now
