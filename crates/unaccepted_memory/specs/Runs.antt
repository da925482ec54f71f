-- Runs of marked units.
use Rattle.std.specs.Prelude.{◌≡◌, ℕ, zero, suc, ◌+◌, ◌-◌, ◌<◌, ◌≤◌, if◌then◌else◌, ◌⊎◌, List, [], ◌∷◌, ◌==◌, ◌≢◌}

-- the units from first to behind - 1
pub record Run : Type 0 where
  pub first : ℕ
  pub behind : ℕ

abbrev pub run : ℕ → ℕ → Run
run a b = record { first = a; behind = b }

-- unit a put before runs that lie behind it: it is a run of its own, or lengthens the first of them
abbrev pub put_before : ℕ → List Run → List Run
put_before a [] = run a (a + 1) ∷ []
put_before a (r ∷ rs) = if r.first == a + 1 then run a r.behind ∷ rs else run a (a + 1) ∷ r ∷ rs

-- the runs among n units from a on, where f is 1 at the marked ones: the lowest first
unfoldable pub runs : (ℕ → ℕ) → ℕ → ℕ → List Run
runs f a zero = []
runs f a (suc n) = if f a == 1 then put_before a (runs f (a + 1) n) else runs f (a + 1) n

-- the runs among the units from i to j - 1
abbrev pub runs_in : (ℕ → ℕ) → ℕ → ℕ → List Run
runs_in f i j = runs f i (j - i)

-- one thing where there is no run, and another where there is one
abbrev pub if_none : {A : Type 0} → List Run → A → A → A
if_none [] x y = x
if_none (r ∷ rs) x y = y

-- What runs are. A run of the units from i to j - 1 at which f is 1:
pub record IsRun (f : ℕ → ℕ) (i j : ℕ) (r : Run) : Type 0 where
  pub from : i ≤ r.first
  pub some : r.first < r.behind
  pub to : r.behind ≤ j
  -- all its units are marked,
  pub full : (k : ℕ) → r.first ≤ k → k < r.behind → f k ≡ 1
  -- and neither the unit before it nor the one behind it is
  pub starts : i < r.first → f (r.first - 1) ≢ 1
  pub ends : r.behind < j → f r.behind ≢ 1

abbrev pub EveryRun : (Run → Type 0) → List Run → Type 0
EveryRun P [] = Unit {0}
EveryRun P (r ∷ rs) = P r × EveryRun P rs

abbrev pub SomeRun : (Run → Type 0) → List Run → Type 0
SomeRun P [] = ⊥
SomeRun P (r ∷ rs) = P r ⊎ SomeRun P rs

-- the lowest first, with a gap between two
abbrev pub Ordered : List Run → Type 0
Ordered [] = Unit {0}
Ordered (r ∷ rs) = EveryRun (λ q. r.behind < q.first) rs × Ordered rs

pub record AreRuns (f : ℕ → ℕ) (i j : ℕ) (rs : List Run) : Type 0 where
  pub each : EveryRun (IsRun f i j) rs
  pub ordered : Ordered rs
  -- every marked unit is in one of them
  pub all : (k : ℕ) → i ≤ k → k < j → f k ≡ 1 → SomeRun (λ r. (r.first ≤ k) × (k < r.behind)) rs

abbrev pub RunsLaw : Type 0
RunsLaw = (f : ℕ → ℕ) (i j : ℕ) → AreRuns f i j (runs_in f i j)
