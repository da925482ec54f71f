-- The first run from what two searches find: the first mark, and the first gap behind it. For code that goes from run to run.
use Rattle.std.proofs.Common.{◌≡◌, ℕ, zero, suc, ◌+◌, ◌-◌, ◌<◌, ◌≤◌, Bool, true, false, cond, eqb, ◌⊎◌, List, [], ◌∷◌, refl, ap, ◌∙◌, inl, inr, arith}
use Rattle.std.proofs.lemmas.Bool.{eq-eqb, ne_eqb, cases_lt, cases_eq}
use Rattle.bitmap.specs.Marks.{marked, gap}
use Rattle.bitmap.specs.Search.{Nowhere, First}
use Rattle.bitmap.proofs.MarkLaws.{marked_lt}
use Rattle.unaccepted_memory.specs.Runs.{Run, run, put_before, runs, runs_in}

runs_clear : (f : ℕ → ℕ) (a n : ℕ) → f a ≡ 0 → runs f a (suc n) ≡ runs f (a + 1) n
unfolding runs
runs_clear f a n e = let t : eqb (f a) 1 ≡ false = ne_eqb _ _ (λ o. omega arith) in rw t

runs_marked : (f : ℕ → ℕ) (a n : ℕ) → f a ≡ 1 → runs f a (suc n) ≡ put_before a (runs f (a + 1) n)
unfolding runs
runs_marked f a n e = let t : eqb (f a) 1 ≡ true = eq-eqb _ _ e in rw t

runs_end : (f : ℕ → ℕ) (a n : ℕ) → n ≡ 0 → runs f a n ≡ []
unfolding runs
runs_end f a n e = rw e

-- units without a mark are passed over
runs_skip : (m : ℕ) (f : ℕ → ℕ) (a s last : ℕ) → s ≡ a + m → s ≤ last → Nowhere f a s → runs_in f a last ≡ runs_in f s last
runs_skip zero f a s last d h z = let same : s ≡ a = omega arith in rw same
runs_skip (suc m) f a s last d h z =
    let n : last - a ≡ suc (last - (a + 1)) = omega arith in
    rw n (runs_clear f a (last - (a + 1)) (z a (omega arith) (omega arith)) ∙ runs_skip m f (a + 1) s last (omega arith) h (λ k lo hi. z k (omega arith) hi))

-- no run begins below k
abbrev Above : ℕ → List Run → Type 0
Above k [] = Unit {0}
Above k (r ∷ rs) = k ≤ r.first

put_before_above : (a : ℕ) (rs : List Run) → Above a (put_before a rs)
put_before_above a [] = omega arith
put_before_above a (r ∷ rs) = by (eqb r.first (a + 1))
  where
    by : (b : Bool) → Above a (cond b (run a r.behind ∷ rs) (run a (a + 1) ∷ r ∷ rs))
    by true = omega arith
    by false = omega arith

above_less : (a b : ℕ) (rs : List Run) → a ≤ b → Above b rs → Above a rs
above_less a b [] h p = tt
above_less a b (r ∷ rs) h p = omega arith

runs_above : (n : ℕ) (f : ℕ → ℕ) (a : ℕ) → Above a (runs f a n)
unfolding runs
runs_above zero f a = tt
runs_above (suc n) f a = by (eqb (f a) 1) (runs_above n f (a + 1))
  where
    by : (b : Bool) → Above (a + 1) (runs f (a + 1) n) → Above a (cond b (put_before a (runs f (a + 1) n)) (runs f (a + 1) n))
    by true ih = put_before_above a (runs f (a + 1) n)
    by false ih = above_less a (a + 1) (runs f (a + 1) n) (omega arith) ih

put_before_apart : (a : ℕ) (rs : List Run) → Above (a + 2) rs → put_before a rs ≡ run a (a + 1) ∷ rs
put_before_apart a [] h = refl
put_before_apart a (r ∷ rs) h = let t : eqb r.first (a + 1) ≡ false = ne_eqb _ _ (λ e. omega arith) in rw t

put_before_on : (a b : ℕ) (rs : List Run) → put_before a (run (a + 1) b ∷ rs) ≡ run a b ∷ rs
put_before_on a b rs = let t : eqb (a + 1) (a + 1) ≡ true = eq-eqb _ _ refl in rw t

runs_take : (m : ℕ) (f : ℕ → ℕ) (s e last : ℕ) → e ≡ s + suc m → e ≤ last → ((k : ℕ) → s ≤ k → k < e → f k ≡ 1)
    → Above (e + 1) (runs_in f e last) → runs_in f s last ≡ run s e ∷ runs_in f e last
runs_take zero f s e last d h o ab =
    let n : last - s ≡ suc (last - (s + 1)) = omega arith in
    let one : e ≡ s + 1 = omega arith in
    let two : e + 1 ≡ s + 2 = omega arith in
    let ab' : Above (s + 2) (runs f (s + 1) (last - (s + 1))) = rw (two, one) at ab in
    rw (n, one) (runs_marked f s (last - (s + 1)) (o s (omega arith) (omega arith)) ∙ put_before_apart s _ ab')
runs_take (suc m) f s e last d h o ab =
    let n : last - s ≡ suc (last - (s + 1)) = omega arith in
    let ih = runs_take m f (s + 1) e last (omega arith) h (λ k lo hi. o k (omega arith) hi) ab in
    rw n (runs_marked f s (last - (s + 1)) (o s (omega arith) (omega arith)) ∙ ap (put_before s) ih ∙ put_before_on s e _)

apart : (f : ℕ → ℕ) (e last : ℕ) → e ≤ last → (e ≡ last) ⊎ (f e ≡ 0) → Above (e + 1) (runs_in f e last)
apart f e last h (inl p) = let z = runs_end f e (last - e) (omega arith) in rw z tt
apart f e last h (inr p) =
    elim (cases_lt e last) [
      | inl l ↦
          let n : last - e ≡ suc (last - (e + 1)) = omega arith in
          let z = runs_clear f e (last - (e + 1)) p in
          rw (n, z) (runs_above (last - (e + 1)) f (e + 1))
      | inr l ↦ let z = runs_end f e (last - e) (omega arith) in rw z tt
    ]

pub runs_none : (f : ℕ → ℕ) (a last : ℕ) → Nowhere f a last → runs_in f a last ≡ []
runs_none f a last z =
    elim (cases_lt a last) [
      | inl l ↦ runs_skip (last - a) f a last last (omega arith) (omega arith) z ∙ runs_end f last (last - last) (omega arith)
      | inr l ↦ runs_end f a (last - a) (omega arith)
    ]

-- a run from a on that ends at b, and the runs behind it
module _ (ws : List ℕ) (scan last a : ℕ) (p : First (marked ws) scan last a) where
  leads : (b : ℕ) → Nowhere (gap ws) a b → a < b → b ≤ last → (b ≡ last) ⊎ (marked ws b ≡ 0)
      → runs_in (marked ws) scan last ≡ run a b ∷ runs_in (marked ws) b last
  leads b z l h stop =
      runs_skip (a - scan) (marked ws) scan a last (omega (arith, p.from)) (omega arith) p.before
      ∙ runs_take (b - a - 1) (marked ws) a b last (omega arith) h (λ k lo hi. omega (arith, z k lo hi, marked_lt ws k)) (apart (marked ws) b last h stop)

  -- no gap was found: the run goes to the end
  pub leads_last : Nowhere (gap ws) a last → runs_in (marked ws) scan last ≡ run a last ∷ []
  leads_last z = leads last z p.to (omega arith) (inl refl) ∙ ap (λ (l : List Run). run a last ∷ l) (runs_end (marked ws) last (last - last) (omega arith))

  -- or one at b
  pub leads_gap : (b : ℕ) → First (gap ws) a last b → runs_in (marked ws) scan last ≡ run a b ∷ runs_in (marked ws) b last
  leads_gap b q =
      let clear : marked ws b ≡ 0 = omega (arith, q.here) in
      let l : a < b =
      elim (cases_eq a b) [
        | inl e ↦ absurd (let o = p.here in let o' : marked ws b ≡ 1 = rw e at o in omega arith)
        | inr n ↦ omega (arith, q.from)
      ] in
      leads b q.before l (omega (arith, q.to)) (inr clear)
