-- The runs of units are what they should be.
use Rattle.std.proofs.Common.{◌≡◌, ℕ, zero, suc, ◌+◌, ◌-◌, ◌<◌, ◌≤◌, Bool, true, false, cond, eqb, List, [], ◌∷◌, refl, inl, inr, arith}
use Rattle.std.proofs.lemmas.Bool.{cases_eq, eqb-true, eqb-false}
use Rattle.unaccepted_memory.specs.Runs.{Run, run, put_before, runs, IsRun, EveryRun, SomeRun, AreRuns, RunsLaw}

pub every_by : (P Q : Run → Type 0) (rs : List Run) → ((r : Run) → P r → Q r) → EveryRun P rs → EveryRun Q rs
every_by P Q [] f h = tt
every_by P Q (r ∷ rs) f h = (f r h.0, every_by P Q rs f h.1)

pub every_both : (P Q S : Run → Type 0) (rs : List Run) → ((r : Run) → P r → Q r → S r) → EveryRun P rs → EveryRun Q rs → EveryRun S rs
every_both P Q S [] f h k = tt
every_both P Q S (r ∷ rs) f h k = (f r h.0 k.0, every_both P Q S rs f h.1 k.1)

pub no_run : (P Q : Run → Type 0) (rs : List Run) → ((r : Run) → P r → Q r → ⊥) → EveryRun P rs → SomeRun Q rs → ⊥
no_run P Q [] f h k = k
no_run P Q (r ∷ rs) f h (inl k) = f r h.0 k
no_run P Q (r ∷ rs) f h (inr k) = no_run P Q rs f h.1 k

module _ (f : ℕ → ℕ) (a j : ℕ) where
  -- a unit more below that is not marked
  lower : (f a ≡ 1 → ⊥) → (r : Run) → IsRun f (a + 1) j r → IsRun f a j r
  lower gap r h = record {
    from = omega (arith, h.from);
    some = h.some;
    to = h.to;
    full = h.full;
    starts = λ l e.
        elim (cases_eq r.first (a + 1)) [
          | inl q ↦ let p : r.first - 1 ≡ a = omega arith in gap (rw p at e)
          | inr q ↦ h.starts (omega (arith, h.from)) e
        ];
    ends = h.ends;
  }

  -- or one that is marked, and does not touch the run
  apart : (r : Run) → IsRun f (a + 1) j r → a + 1 < r.first → IsRun f a j r
  apart r h l = record {
    from = omega arith;
    some = h.some;
    to = h.to;
    full = h.full;
    starts = λ _ e. h.starts l e;
    ends = h.ends;
  }

  pass : (rs : List Run) → (f a ≡ 1 → ⊥) → AreRuns f (a + 1) j rs → AreRuns f a j rs
  pass rs gap h = record {
    each = every_by (IsRun f (a + 1) j) (IsRun f a j) rs (lower gap) h.each;
    ordered = h.ordered;
    all = λ k from to e.
        elim (cases_eq k a) [
          | inl q ↦ absurd (gap (rw q at e))
          | inr q ↦ h.all k (omega arith) to e
        ];
  }

  -- a run of one unit, with nothing marked behind it
  alone : f a ≡ 1 → a < j → (a + 1 < j → f (a + 1) ≡ 1 → ⊥) → IsRun f a j (run a (a + 1))
  alone here l gap = record {
    from = omega arith;
    some = omega arith;
    to = omega arith;
    full = λ k from to. let e : k ≡ a = omega arith in rw e here;
    starts = λ l _. absurd (omega arith);
    ends = gap;
  }

  join : (rs : List Run) → f a ≡ 1 → a < j → AreRuns f (a + 1) j rs → AreRuns f a j (put_before a rs)
  join [] here l h = record {
    each = (alone here l (λ m e. h.all (a + 1) (omega arith) m e), tt);
    ordered = (tt, tt);
    all = λ k from to e.
        elim (cases_eq k a) [
          | inl q ↦ inl (omega arith, omega arith)
          | inr q ↦ absurd (h.all k (omega arith) to e)
        ];
  }
  join (r ∷ rs) here l h = by (eqb r.first (a + 1)) refl
    where
      first : IsRun f (a + 1) j r
      first = h.each.0

      later : EveryRun (IsRun f a j) rs
      later = every_both (λ q. r.behind < q.first) (IsRun f (a + 1) j) (IsRun f a j) rs
          (λ q b i. apart q i (omega (arith, first.from, first.some))) h.ordered.0 h.each.1

      further : (b : Run) → r.behind ≡ b.behind → b.first ≤ r.first → (k : ℕ)
          → SomeRun (λ q. (q.first ≤ k) × (k < q.behind)) (r ∷ rs) → SomeRun (λ q. (q.first ≤ k) × (k < q.behind)) (b ∷ rs)
      further b e m k (inl i) = inl (omega arith, omega arith)
      further b e m k (inr i) = inr i

      long : r.first ≡ a + 1 → AreRuns f a j (run a r.behind ∷ rs)
      long e = record {
        each = (
          record {
            from = omega arith;
            some = omega (arith, first.some);
            to = first.to;
            full = λ k from to.
                elim (cases_eq k a) [
                  | inl q ↦ rw q here
                  | inr q ↦ first.full k (omega arith) to
                ];
            starts = λ m _. absurd (omega arith);
            ends = first.ends;
          },
          later,
        );
        ordered = h.ordered;
        all = λ k from to m.
            elim (cases_eq k a) [
              | inl q ↦ inl (omega arith, omega (arith, first.some))
              | inr q ↦ further (run a r.behind) refl (omega arith) k (h.all k (omega arith) to m)
            ];
      }

      short : (r.first ≡ a + 1 → ⊥) → AreRuns f a j (run a (a + 1) ∷ r ∷ rs)
      short ne =
          let above : a + 1 < r.first = omega (arith, first.from) in
          let others : EveryRun (λ q. a + 1 < q.first) (r ∷ rs) =
          (above, every_by (λ q. r.behind < q.first) (λ q. a + 1 < q.first) rs (λ q b. omega (arith, first.some)) h.ordered.0) in
          record {
            each = (
              alone here l (λ m e. no_run (λ q. a + 1 < q.first) (λ q. (q.first ≤ a + 1) × (a + 1 < q.behind)) (r ∷ rs) (λ q p i. omega arith) others
                  (h.all (a + 1) (omega arith) m e)),
              (apart r first above, later),
            );
            ordered = (others, h.ordered);
            all = λ k from to m.
                elim (cases_eq k a) [
                  | inl q ↦ inl (omega arith, omega arith)
                  | inr q ↦ inr (h.all k (omega arith) to m)
                ];
          }

      by : (b : Bool) → eqb r.first (a + 1) ≡ b → AreRuns f a j (cond b (run a r.behind ∷ rs) (run a (a + 1) ∷ r ∷ rs))
      by true e = long (eqb-true _ _ e)
      by false e = short (eqb-false _ _ e)

are_runs : (n : ℕ) (f : ℕ → ℕ) (a j : ℕ) → j - a ≡ n → AreRuns f a j (runs f a n)
unfolding runs
are_runs zero f a j e = record { each = tt; ordered = tt; all = λ k from to m. absurd (omega arith) }
are_runs (suc n) f a j e = by (eqb (f a) 1) refl (are_runs n f (a + 1) j (omega arith))
  where
    by : (b : Bool) → eqb (f a) 1 ≡ b → AreRuns f (a + 1) j (runs f (a + 1) n) → AreRuns f a j (cond b (put_before a (runs f (a + 1) n)) (runs f (a + 1) n))
    by true q h = join f a j (runs f (a + 1) n) (eqb-true _ _ q) (omega arith) h
    by false q h = pass f a j (runs f (a + 1) n) (eqb-false _ _ q) h

pub runs_told : RunsLaw
runs_told f i j = are_runs (j - i) f i j refl
