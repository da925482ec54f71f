-- What the calls do, in the words of units, windows and walks.
use Rattle.std.specs.Prelude.{◌≡◌, ℕ, ◌-◌, ◌*◌, ◌%◌, ◌<◌, ◌≤◌, true, false, ◌↔◌, List, [], ◌∷◌, ◌++◌, Some, None, Ok, Err, Option, ◌≢◌}
use Rattle.fault.specs.Refusals.{Told}
use Rattle.host.specs.Replies.{Replies}
use Rattle.bitmap.specs.Marks.{marked, units_set, RangeWritten}
use Rattle.bitmap.specs.Search.{Nowhere, Somewhere}
use Rattle.efi_table.specs.declared.layout.Range.{Range}
use Rattle.efi_table.specs.Shapes.{Shape}
use Rattle.efi_table.specs.Images.{is_image}
use Rattle.efi_table.specs.Laws.{Touched}
use Rattle.efi_table.specs.Layouts.{building}
use Rattle.efi_entries.specs.Entries.{found}
use Rattle.unaccepted_memory.specs.Runs.{Run}
use Rattle.unaccepted_memory.specs.Plans.{Walk, Outcome, outcome, addresses_of, placed}
use Rattle.unaccepted_memory.specs.Calls.{bitmap_of, wrong_image, inner_units, register_in, register_range, accept_range, claim_next_pending_run, settle_claim, restore_pending_range}
use Rattle.unaccepted_memory.specs.History.{Moment, claimed, Event, Step}
use Rattle.unaccepted_memory.specs.Promises.{◌∈◌}

-- unit k and a window have an address in common
abbrev pub Shares : Shape → Range → ℕ → Type 0
Shares h w k = Touched h k w.start w.end

-- no unit that the words mark overlaps a window
abbrev pub NoMark : Shape → List ℕ → Range → Type 0
NoMark h ws w = (k : ℕ) → marked ws k ≡ 1 → Shares h w k → ⊥

-- k is a unit of a run
abbrev pub OfRun : Run → ℕ → Type 0
OfRun r k = (r.first ≤ k) × (k < r.behind)

-- Unit k was taken over by a call: by a walk over its run that succeeded, or into the claim that was answered.
pub data TakenOver (h : Shape) (e : Event) (k : ℕ) : Type 0 where
  over_by_walk : (r : Run) (w : Walk) (c : ℕ) → w ∈ e.walks → w.span ≡ addresses_of h r → w.answer ≡ Ok c → OfRun r k → TakenOver h e k
  over_by_claim : (r : Run) → e.answer ≡ claimed (addresses_of h r) → OfRun r k → TakenOver h e k

-- A unit is cleared only so.
abbrev pub ClearedOnly : Type 0
ClearedOnly = (h : Shape) (m n : Moment) (e : Event) → is_image h m.image ≡ true → Step h m e n
    → (k : ℕ) → marked (bitmap_of h m.image) k ≡ 1 → marked (bitmap_of h n.image) k ≡ 0 → TakenOver h e k

-- The fault of accepting is that of its last walk, over the run that begins with the unit it names. That run stays marked,
-- as do all marks above it.
pub record StuckAt (h : Shape) (ws ws' : List ℕ) (walks : List Walk) (t : Told) : Type 0 where
  pub run : Run
  pub unit : t.unit ≡ run.first
  pub full : (k : ℕ) → OfRun run k → marked ws' k ≡ 1
  pub above : (k : ℕ) → run.first ≤ k → marked ws' k ≡ marked ws k
  pub before : List Walk
  pub last : Walk
  pub fault : Told
  pub count : ℕ
  pub walked : walks ≡ before ++ (last ∷ [])
  pub over : last.span ≡ addresses_of h run
  pub failed : last.answer ≡ Err fault
  pub told : t ≡ placed 0 run.first count fault

abbrev pub StuckLaw : Type 0
StuckLaw = (h : Shape) (img : List ℕ) (R : Replies) (w : Range) (t : Told) → is_image h img ≡ true → (accept_range h img R w).answer ≡ Err t
    → StuckAt h (bitmap_of h img) (bitmap_of h (accept_range h img R w).words) (accept_range h img R w).walks t

-- Accepting in a window that overlaps no mark asks nothing, and succeeds.
abbrev pub AcceptNone : Type 0
AcceptNone = (h : Shape) (img : List ℕ) (R : Replies) (w : Range) → 0 < h.unit → is_image h img ≡ true → NoMark h (bitmap_of h img) w
    → accept_range h img R w ≡ outcome (Ok 0) img []

-- The claim that is answered: the first run of marks in the window, cleared.
pub record ClaimedRun (h : Shape) (ws ws' : List ℕ) (w c : Range) : Type 0 where
  pub run : Run
  pub addresses : c ≡ addresses_of h run
  pub some : run.first < run.behind
  pub full : (k : ℕ) → OfRun run k → (marked ws k ≡ 1) × Shares h w k
  pub lowest : (k : ℕ) → marked ws k ≡ 1 → Shares h w k → run.first ≤ k
  pub longest : marked ws run.behind ≡ 1 → Shares h w run.behind → ⊥
  pub cleared : RangeWritten 0 ws ws' run.first run.behind

-- Claiming never refuses the table's own image. It answers none exactly if no mark overlaps the window, and then changes
-- nothing.
pub record ClaimTold (h : Shape) (img : List ℕ) (w : Range) (o : Outcome (Option Range)) : Type 0 where
  pub never : (t : Told) → o.answer ≢ Err t
  pub none : (o.answer ≡ Ok None) ↔ NoMark h (bitmap_of h img) w
  pub unchanged : o.answer ≡ Ok None → o.words ≡ img
  pub one : (c : Range) → o.answer ≡ Ok (Some c) → ClaimedRun h (bitmap_of h img) (bitmap_of h o.words) w c

abbrev pub ClaimLaw : Type 0
ClaimLaw = (h : Shape) (img : List ℕ) (w : Range) → 0 < h.unit → h.length % 8 ≡ 0 → is_image h img ≡ true → ClaimTold h img w (claim_next_pending_run h img w)

-- A call that is refused by any number but 1, 3 and 5 has changed nothing and asked nothing.
abbrev pub Untouched : {A : Type 0} → List ℕ → Outcome A → Type 0
Untouched img o = (t : Told) → o.answer ≡ Err t → (t.refusal ≢ 1) → (t.refusal ≢ 3) → (t.refusal ≢ 5) → (o.words ≡ img) × (o.walks ≡ [])

pub record RefusalsTold (h : Shape) (img : List ℕ) (R : Replies) (s : Range) (u : ℕ) : Type 0 where
  pub registering : Untouched img (register_range h img R s u)
  pub accepting : Untouched img (accept_range h img R s)
  pub claiming : Untouched img (claim_next_pending_run h img s)
  pub settling : Untouched img (settle_claim h img R s)
  pub restoring : Untouched img (restore_pending_range h img s)

abbrev pub RefusalsLaw : Type 0
RefusalsLaw = (h : Shape) (img : List ℕ) (R : Replies) (s : Range) (u : ℕ) → RefusalsTold h img R s u

-- A call on an image that is not the table's is refused by 6, changes nothing and asks nothing.
pub record WrongTold (h : Shape) (img : List ℕ) (R : Replies) (s : Range) (u : ℕ) : Type 0 where
  pub registering : register_range h img R s u ≡ outcome (Err wrong_image) img []
  pub accepting : accept_range h img R s ≡ outcome (Err wrong_image) img []
  pub claiming : claim_next_pending_run h img s ≡ outcome (Err wrong_image) img []
  pub settling : settle_claim h img R s ≡ outcome (Err wrong_image) img []
  pub restoring : restore_pending_range h img s ≡ outcome (Err wrong_image) img []

abbrev pub WrongLaw : Type 0
WrongLaw = (h : Shape) (img : List ℕ) (R : Replies) (s : Range) (u : ℕ) → is_image h img ≡ false → WrongTold h img R s u

-- An empty range is registered at once.
abbrev pub RegisterEmpty : Type 0
RegisterEmpty = (h : Shape) (img : List ℕ) (R : Replies) (s : Range) (u : ℕ) → 0 < h.unit → is_image h img ≡ true → s.end ≤ s.start
    → register_range h img R s u ≡ outcome (Ok 0) img []

-- What registering makes of the bitmap ws:
pub record RegisterTold (h : Shape) (s : Range) (u : ℕ) (ws : List ℕ) (o : Outcome ℕ) : Type 0 where
  -- a range shorter than two units marks nothing, and is never refused by 3;
  pub short : s.end - s.start < 2 * h.unit → (o.words ≡ ws) × ((t : Told) → o.answer ≡ Err t → t.refusal ≢ 3)
  -- a success marks the units between the edges of any other, none of which was marked before;
  pub done : (c : ℕ) → o.answer ≡ Ok c → 2 * h.unit ≤ s.end - s.start
      → Nowhere (marked ws) (inner_units h s).first (inner_units h s).behind × (o.words ≡ units_set ws (inner_units h s).first (inner_units h s).behind)
  -- a refusal by 3 is in part 5 and names unit u; one of these units is marked, and the words are as before
  pub overlap : (t : Told) → o.answer ≡ Err t → t.refusal ≡ 3
      → (t.part ≡ 5) × (t.unit ≡ u) × Somewhere (marked ws) (inner_units h s).first (inner_units h s).behind × (o.words ≡ ws)

abbrev pub RegisterLaw : Type 0
RegisterLaw = (h : Shape) (R : Replies) (s : Range) (u : ℕ) (ws : List ℕ) → RegisterTold h s u ws (register_in h R s u ws)

-- A table that is built, and one that is found, have what a lawful start asks for.
pub record BuiltTold (h : Shape) : Type 0 where
  pub unit : 0 < h.unit
  pub words : h.length % 8 ≡ 0
  pub base : h.base % h.unit ≡ 0

abbrev pub BuiltLaw : Type 0
BuiltLaw = (from to held : ℕ) (h : Shape) → building from to held ≡ Ok h → BuiltTold h

pub record FoundTold (h : Shape) (img : List ℕ) : Type 0 where
  pub unit : 0 < h.unit
  pub words : h.length % 8 ≡ 0
  pub image : is_image h img ≡ true

abbrev pub FoundLaw : Type 0
FoundLaw = (entries img : List ℕ) (h : Shape) → found entries img ≡ Ok h → FoundTold h img
