-- The runs that a call walks or claims are full of marks.
use Rattle.std.proofs.Common.{◌≡◌, ℕ, ◌-◌, ◌*◌, ◌<◌, ◌≤◌, List, [], ◌∷◌, map, length, Some, None, Option, inl, inr, arith}
use Rattle.std.proofs.lemmas.Bool.{cases_lt}
use Rattle.bitmap.specs.Marks.{marked}
use Rattle.bitmap.proofs.MarkLaws.{marked_past}
use Rattle.efi_table.specs.Shapes.{Shape, units_of}
use Rattle.unaccepted_memory.specs.Runs.{Run, IsRun, EveryRun}
use Rattle.unaccepted_memory.specs.Plans.{addresses_of, clearing}
use Rattle.unaccepted_memory.specs.Calls.{runs_of_units}
use Rattle.unaccepted_memory.specs.Promises.{Holds, Marked}
use Rattle.unaccepted_memory.proofs.UnitLaws.{unit_found}
use Rattle.unaccepted_memory.proofs.PlanLaws.{Held, here, there, Below}
use Rattle.unaccepted_memory.proofs.RunLaws.{runs_told, every_by}

-- runs of marks
abbrev pub FullRun : List ℕ → Run → Type 0
FullRun ws r = (r.first < r.behind) × ((k : ℕ) → r.first ≤ k → k < r.behind → marked ws k ≡ 1)

pub full_runs : (ws : List ℕ) (o : Option (ℕ × ℕ × ℕ)) → EveryRun (FullRun ws) (runs_of_units ws o)
full_runs ws None = tt
full_runs ws (Some t) = every_by (IsRun (marked ws) t.0 t.1) (FullRun ws) _ (λ r i. (i.some, i.full)) (runs_told (marked ws) t.0 t.1).each

pub full_marked : (h : Shape) → 0 < h.unit → (ws : List ℕ) (r : Run) (a : ℕ) → FullRun ws r → Holds (addresses_of h r) a → Marked h ws a
full_marked h some ws r a i q = let u = unit_found h some r a q in (u.0, i.1 u.0 u.1 u.2, u.3)

pub held_marked : (h : Shape) → 0 < h.unit → (ws : List ℕ) (rs : List Run) (a : ℕ) → EveryRun (FullRun ws) rs → Held h a (map clearing rs) → Marked h ws a
held_marked h some ws [] a i q = elim q [ ]
held_marked h some ws (r ∷ rs) a i (here q) = full_marked h some ws r a i.0 q
held_marked h some ws (r ∷ rs) a i (there q) = held_marked h some ws rs a i.1 q

pub below_clearing : (n : ℕ) (rs : List Run) → Below n (map clearing rs)
below_clearing n [] = tt
below_clearing n (r ∷ rs) = below_clearing n rs

-- a marked unit is one of the table's
pub run_fits : (h : Shape) (ws : List ℕ) (r : Run) → 64 * length ws ≡ units_of h → FullRun ws r → r.behind ≤ units_of h
run_fits h ws r units i =
    elim (cases_lt (r.behind - 1) (64 * length ws)) [
      | inl l ↦ omega arith
      | inr l ↦
          let one = i.1 (r.behind - 1) (omega (arith, i.0)) (omega (arith, i.0)) in
          absurd (omega (arith, marked_past ws (r.behind - 1) l))
    ]
