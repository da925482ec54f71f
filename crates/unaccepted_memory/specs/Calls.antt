-- What each call on a table comes to, as a function of the table's numbers, its image, the host's replies from now on, and
-- the arguments.
use Rattle.std.specs.Prelude.{ℕ, ◌-◌, ◌*◌, ◌/◌, min, max, if◌then◌else◌, List, [], ◌∷◌, map, Some, None, Ok, Err, Option, nat_lt}
use Rattle.std.specs.Int.{next_multiple_of}
use Rattle.std.specs.List.{between}
use Rattle.fault.specs.Refusals.{Told}
use Rattle.host.specs.Replies.{Replies}
use Rattle.bitmap.specs.Marks.{marked, units_set, units_cleared}
use Rattle.bitmap.specs.Parts.{with_part}
use Rattle.efi_table.specs.declared.layout.Range.{Range}
use Rattle.efi_table.specs.Layouts.{range, aligned_down}
use Rattle.efi_table.specs.Shapes.{Shape, covered_end, bitmap_end, overlap_of}
use Rattle.efi_table.specs.Images.{is_image}
use Rattle.unaccepted_memory.specs.Runs.{Run, run, runs_in}
use Rattle.unaccepted_memory.specs.Plans.{walk_over, Outcome, outcome, addresses_of, Order, walking, marking, clearing, performing}

-- The bitmap of an image: its words from word 3 up to the bitmap's end.
abbrev pub bitmap_of : Shape → List ℕ → List ℕ
bitmap_of h img = between 3 (bitmap_end h) img

-- Each call is told by what it comes to on the bitmap. On the image the header and what lies behind the bitmap stay.
abbrev pub in_image : {A : Type 0} → Shape → List ℕ → Outcome A → Outcome A
in_image h img o = outcome o.answer (with_part 3 (bitmap_end h) img o.words) o.walks

abbrev pub wrong_image : Told
wrong_image = record { refusal = 6; reason = 0; layer = 3; status = 0; level = 0; address = 0; count = 0; part = 0; unit = 0 }

-- Every call first checks that the image is the table's. If it is not, the call is refused by 6 and does nothing.
abbrev pub on_image : {A : Type 0} → Shape → List ℕ → (List ℕ → Outcome A) → Outcome A
on_image h img f = if is_image h img then in_image h img (f (bitmap_of h img)) else outcome (Err wrong_image) img []

-- Registering a range. What lies between its edges begins and ends at multiples of the unit size.
abbrev pub inner_low : Shape → Range → ℕ
inner_low h s = next_multiple_of s.start h.unit

abbrev pub inner_high : Shape → Range → ℕ
inner_high h s = aligned_down s.end h.unit

-- the units that lie between the edges of a range
abbrev pub inner_units : Shape → Range → Run
inner_units h s =
    run ((max (inner_low h s) h.base - h.base) / h.unit) ((min (inner_high h s) (covered_end h) - h.base) / h.unit)

-- A range shorter than two units is walked whole, which is part 1. Of any other the front edge (2) is walked, then the
-- back edge (3), then what lies before the base (4); the units inside are marked (5), and what lies behind them is walked (6).
abbrev pub parts_of : Shape → Range → List Order
parts_of h s =
    if nat_lt (s.end - s.start) (2 * h.unit)
    then walking 1 s ∷ []
    else walking 2 (range s.start (inner_low h s))
    ∷ walking 3 (range (inner_high h s) s.end)
    ∷ walking 4 (range (inner_low h s) (min (inner_high h s) h.base))
    ∷ marking (inner_units h s)
    ∷ walking 6 (range (max (inner_low h s) (covered_end h)) (inner_high h s))
    ∷ []

-- It answers the number of requests. Where a unit inside is marked already, the refusal by 3 names unit u.
abbrev pub register_in : Shape → Replies → Range → ℕ → List ℕ → Outcome ℕ
register_in h R s u ws = performing h u R ws 0 (parts_of h s)

abbrev pub register_range : Shape → List ℕ → Replies → Range → ℕ → Outcome ℕ
register_range h img R s u = on_image h img (register_in h R s u)

-- The runs of marks among the units that a window overlaps.
abbrev pub runs_of_units : List ℕ → Option (ℕ × ℕ × ℕ) → List Run
runs_of_units ws None = []
runs_of_units ws (Some t) = runs_in (marked ws) t.0 t.1

abbrev pub runs_over : Shape → List ℕ → Range → List Run
runs_over h ws w = runs_of_units ws (overlap_of h w.start w.end)

-- Accepting in a window walks each of these runs, the lowest first, and clears it once its walk has succeeded. It answers the
-- number of requests.
abbrev pub accept_in : Shape → Replies → Range → List ℕ → Outcome ℕ
accept_in h R w ws = performing h 0 R ws 0 (map clearing (runs_over h ws w))

abbrev pub accept_range : Shape → List ℕ → Replies → Range → Outcome ℕ
accept_range h img R w = on_image h img (accept_in h R w)

-- Claiming in a window clears the first of these runs and answers its addresses; where there is none it answers none.
abbrev pub claim_first : Shape → List ℕ → List Run → Outcome (Option Range)
claim_first h ws [] = outcome (Ok None) ws []
claim_first h ws (r ∷ rs) = outcome (Ok (Some (addresses_of h r))) (units_cleared ws r.first r.behind) []

abbrev pub claim_in : Shape → Range → List ℕ → Outcome (Option Range)
claim_in h w ws = claim_first h ws (runs_over h ws w)

abbrev pub claim_next_pending_run : Shape → List ℕ → Range → Outcome (Option Range)
claim_next_pending_run h img w = on_image h img (claim_in h w)

-- Settling a claim walks its addresses.
abbrev pub settle_in : Replies → Range → List ℕ → Outcome ℕ
settle_in R c ws = outcome (walk_over R c).answer ws (walk_over R c ∷ [])

abbrev pub settle_claim : Shape → List ℕ → Replies → Range → Outcome ℕ
settle_claim h img R c = on_image h img (settle_in R c)

-- Restoring a claim marks the units that its addresses overlap.
abbrev pub with_units : List ℕ → Option (ℕ × ℕ × ℕ) → List ℕ
with_units ws None = ws
with_units ws (Some t) = units_set ws t.0 t.1

abbrev pub restore_in : Shape → Range → List ℕ → Outcome (Unit {0})
restore_in h c ws = outcome (Ok tt) (with_units ws (overlap_of h c.start c.end)) []

abbrev pub restore_pending_range : Shape → List ℕ → Range → Outcome (Unit {0})
restore_pending_range h img c = on_image h img (restore_in h c)
