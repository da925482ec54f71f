-- Accepting and claiming, by the marks that a window overlaps.
use Rattle.std.proofs.Common.{◌≡◌, ℕ, ◌-◌, ◌*◌, ◌%◌, ◌<◌, ◌≤◌, true, List, [], ◌∷◌, map, length, Some, None, Ok, Option, Result, sym, refl, ap, ◌∙◌, inl, inr, arith}
use Rattle.std.proofs.lemmas.List.Edits.{split_between}
use Rattle.std.proofs.lemmas.Bool.{cases_lt, cond-true, lt-ltb}
use Rattle.fault.specs.Refusals.{Told}
use Rattle.bitmap.specs.Marks.{marked, units_cleared}
use Rattle.bitmap.specs.Parts.{with_part}
use Rattle.bitmap.proofs.MarkLaws.{length_written, range_written, marked_past}
use Rattle.efi_table.specs.declared.layout.Range.{Range}
use Rattle.efi_table.specs.Shapes.{Shape, units_of, bitmap_end, overlap_of}
use Rattle.efi_table.specs.Images.{is_image}
use Rattle.efi_table.specs.Laws.{Overlaps}
use Rattle.efi_table.proofs.Overlaps.{overlap_law}
use Rattle.unaccepted_memory.specs.Runs.{Run, runs_in, SomeRun, AreRuns}
use Rattle.unaccepted_memory.specs.Plans.{outcome, addresses_of, Order, walking, clearing, performing}
use Rattle.unaccepted_memory.specs.Calls.{bitmap_of, in_image, parts_of, register_in, runs_of_units, runs_over, accept_in, claim_first, claim_in}
use Rattle.unaccepted_memory.specs.CallLaws.{Shares, NoMark, OfRun, AcceptNone, ClaimTold, ClaimLaw, RegisterEmpty}
use Rattle.unaccepted_memory.proofs.Results.{ok_err}
use Rattle.unaccepted_memory.proofs.PlanLaws.{cases_runs, performing_none, performing_passed}
use Rattle.unaccepted_memory.proofs.ImageLaws.{on_own, bitmap_units, bitmap_after}
use Rattle.unaccepted_memory.proofs.RunLaws.{runs_told, no_run}

-- an image whose bitmap is as it was
pub image_same : (h : Shape) (img : List ℕ) → with_part 3 (bitmap_end h) img (bitmap_of h img) ≡ img
image_same h img = sym (split_between img 3 (bitmap_end h) (omega arith))

not_none : {A : Type 0} (r : Run) (l : List Run) → ◌≡◌ {A = List Run} [] (r ∷ l) → A
not_none r l e = let z : ◌≡◌ {A = ℕ} 0 1 = ap some e in absurd (omega arith)
  where
    some : List Run → ℕ
    some [] = 0
    some (x ∷ xs) = 1

some_none : {A B : Type 0} (c : A) → ◌≡◌ {A = Result (Option A) Told} (Ok (Some c)) (Ok None) → B
some_none c e = let z : ◌≡◌ {A = ℕ} 0 1 = cc in absurd (omega arith)

none_some : {A B : Type 0} (c : A) → ◌≡◌ {A = Result (Option A) Told} (Ok None) (Ok (Some c)) → B
none_some c e = some_none c (sym e)

same_some : {A : Type 0} (c d : A) → ◌≡◌ {A = Result (Option A) Told} (Ok (Some c)) (Ok (Some d)) → c ≡ d
same_some c d e = cc

module _ (h : Shape) (ws : List ℕ) (w : Range) where
  -- the first run of marks in the window
  record First (r : Run) : Type 0 where
    some : r.first < r.behind
    full : (k : ℕ) → OfRun r k → (marked ws k ≡ 1) × Shares h w k
    lowest : (k : ℕ) → marked ws k ≡ 1 → Shares h w k → r.first ≤ k
    longest : marked ws r.behind ≡ 1 → Shares h w r.behind → ⊥

  -- a marked unit is one of the table's
  few : 64 * length ws ≡ units_of h → (k : ℕ) → marked ws k ≡ 1 → k < units_of h
  few units k m =
      elim (cases_lt k (64 * length ws)) [
        | inl l ↦ omega arith
        | inr l ↦ absurd (omega (arith, marked_past ws k l))
      ]

  first_run : (o : Option (ℕ × ℕ × ℕ)) → Overlaps h w.start w.end o → 64 * length ws ≡ units_of h → (r : Run) (l : List Run) → runs_of_units ws o ≡ r ∷ l → First r
  first_run None over units r l e = not_none r l e
  first_run (Some t) over units r l e =
      let told : AreRuns (marked ws) t.0 t.1 (r ∷ l) = rw e at (runs_told (marked ws) t.0 t.1) in
      let one = told.each.0 in
      record {
        some = one.some;
        full = λ k i. (one.full k i.0 i.1, (over.only k (omega (arith, one.from), omega (arith, one.to))).1);
        lowest = λ k m i.
            let j = over.all k (few units k m) i in
            lowest told k (told.all k j.0 j.1 m);
        longest = λ m i. one.ends (over.all r.behind (few units r.behind m) i).1 m;
      }
    where
      lowest : AreRuns (marked ws) t.0 t.1 (r ∷ l) → (k : ℕ) → SomeRun (λ q. (q.first ≤ k) × (k < q.behind)) (r ∷ l) → r.first ≤ k
      lowest told k (inl i) = i.0
      lowest told k (inr i) =
          elim (cases_lt k r.first) [
            | inl c ↦ absurd (no_run (λ q. r.behind < q.first) (λ q. (q.first ≤ k) × (k < q.behind)) l (λ q p j. omega (arith, told.each.0.some)) told.ordered.0 i)
            | inr c ↦ c
          ]

  no_runs : (o : Option (ℕ × ℕ × ℕ)) → Overlaps h w.start w.end o → NoMark h ws w → runs_of_units ws o ≡ []
  no_runs None over none = refl
  no_runs (Some t) over none =
      elim (cases_runs (runs_in (marked ws) t.0 t.1)) [
        | inl e ↦ e
        | inr e ↦
            let told : AreRuns (marked ws) t.0 t.1 (e.0 ∷ e.1) = rw e.2 at (runs_told (marked ws) t.0 t.1) in
            let one = told.each.0 in
            absurd (none e.0.first (one.full e.0.first (omega arith) one.some) (over.only e.0.first (one.from, omega (arith, one.some, one.to))).1)
      ]

  no_marks : (o : Option (ℕ × ℕ × ℕ)) → Overlaps h w.start w.end o → 64 * length ws ≡ units_of h → runs_of_units ws o ≡ [] → NoMark h ws w
  no_marks None over units e k m i = over.all k (few units k m) i
  no_marks (Some t) over units e k m i =
      let j = over.all k (few units k m) i in
      let none : SomeRun (λ r. (r.first ≤ k) × (k < r.behind)) [] = rw e at ((runs_told (marked ws) t.0 t.1).all k j.0 j.1 m) in
      none

pub accept_none : AcceptNone
accept_none h img R w some own none =
    let e : runs_over h (bitmap_of h img) w ≡ [] = no_runs h (bitmap_of h img) w (overlap_of h w.start w.end) (overlap_law h w.start w.end some) none in
    on_own h img (accept_in h R w) own
    ∙ ap (λ (rs : List Run). in_image h img (performing h 0 R (bitmap_of h img) 0 (map clearing rs))) e
    ∙ ap (in_image h img) (performing_none h 0 R (bitmap_of h img) 0)
    ∙ ap (λ (ws : List ℕ). outcome (Ok 0) ws []) (image_same h img)

module _ (h : Shape) (img : List ℕ) (w : Range) (some : 0 < h.unit) (whole : h.length % 8 ≡ 0) (own : is_image h img ≡ true) where
  abbrev ws : List ℕ
  ws = bitmap_of h img

  units : 64 * length ws ≡ units_of h
  units = bitmap_units h img own whole

  claim_by : (rs : List Run) → runs_over h ws w ≡ rs → ClaimTold h img w (in_image h img (claim_first h ws rs))
  claim_by [] e = record {
    never = λ t q. ok_err None t q;
    none = (λ _. no_marks h ws w (overlap_of h w.start w.end) (overlap_law h w.start w.end some) units e, λ _. refl);
    unchanged = λ _. image_same h img;
    one = λ c q. none_some c q;
  }
  claim_by (r ∷ l) e =
      let f = first_run h ws w (overlap_of h w.start w.end) (overlap_law h w.start w.end some) units r l e in
      record {
        never = λ t q. ok_err (Some (addresses_of h r)) t q;
        none = (
          λ q. some_none (addresses_of h r) q,
          λ q. not_none r l (sym (no_runs h ws w (overlap_of h w.start w.end) (overlap_law h w.start w.end some) q) ∙ e),
        );
        unchanged = λ q. some_none (addresses_of h r) q;
        one = λ c q. record {
          run = r;
          addresses = sym (same_some (addresses_of h r) c q);
          some = f.some;
          full = f.full;
          lowest = f.lowest;
          longest = f.longest;
          cleared = range_written 0 (omega arith) ws r.first r.behind _
              (bitmap_after h img (units_cleared ws r.first r.behind) own (length_written 0 ws r.first r.behind));
        };
      }

pub claim_told : ClaimLaw
claim_told h img w some whole own = rw (on_own h img (claim_in h w) own) (claim_by h img w some whole own (runs_over h (bitmap_of h img) w) refl)

pub register_empty : RegisterEmpty
register_empty h img R s u some own empty =
    let short : parts_of h s ≡ walking 1 s ∷ [] = cond-true _ _ _ (lt-ltb (s.end - s.start) (2 * h.unit) (omega arith)) in
    on_own h img (register_in h R s u) own
    ∙ ap (λ (os : List Order). in_image h img (performing h u R (bitmap_of h img) 0 os)) short
    ∙ ap (in_image h img) (performing_passed h u R (bitmap_of h img) 0 [] 1 s empty ∙ performing_none h u R (bitmap_of h img) 0)
    ∙ ap (λ (ws : List ℕ). outcome (Ok 0) ws []) (image_same h img)
