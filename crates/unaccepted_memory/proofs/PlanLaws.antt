-- What a plan comes to, whatever its orders are.
use Rattle.std.proofs.Common.{◌≡◌, ℕ, ◌+◌, ◌*◌, ◌/◌, ◌<◌, ◌≤◌, true, false, ltb, ◌⊎◌, List, [], ◌∷◌, length, Ok, Err, Result, sym, refl, ap, ◌∙◌, subst, inl, inr, arith, length-append}
use mathlib.Core.List.Memᴰ
use Rattle.std.proofs.lemmas.Bool.{cases_lt, lt-ltb, le-ltb}
use Rattle.fault.specs.Refusals.{Told}
use Rattle.host.specs.Pages.{Pages, accepted}
use Rattle.host.specs.Replies.{Replies, since, after}
use Rattle.host.specs.Laws.{Sounds}
use Rattle.host.proofs.Soundness.{sounds_since, after_append, after_keeps}
use Rattle.accept_memory.specs.Promises.{Promises, count_of}
use Rattle.accept_memory.proofs.Kept.{promises}
use Rattle.bitmap.specs.Marks.{marked, units_set, units_cleared}
use Rattle.bitmap.proofs.MarkLaws.{length_written}
use Rattle.efi_table.specs.declared.layout.Range.{Range}
use Rattle.efi_table.specs.Shapes.{Shape}
use Rattle.unaccepted_memory.specs.Runs.{Run, runs_in, if_none}
use Rattle.unaccepted_memory.specs.Plans.{Walk, walk_over, requests_of, Outcome, outcome, addresses_of, Order, walking, marking, clearing, placed, overlap_at, going_on, with_walk, performing}
use Rattle.unaccepted_memory.specs.Promises.{◌∈◌, Holds, Marked}
use Rattle.unaccepted_memory.proofs.Results.{ok_err, err_ok, same_err, cases_answer}
use Rattle.unaccepted_memory.proofs.UnitLaws.{set_keeps_at, set_cases_at, set_here_at, clear_cases_at, clear_less_at}

pub cases_runs : (rs : List Run) → (rs ≡ []) ⊎ ((r : Run) × (l : List Run) × (rs ≡ r ∷ l))
cases_runs [] = inl refl
cases_runs (r ∷ l) = inr (r, l, refl)

-- a plan, by what its first order comes to
module _ (h : Shape) (u : ℕ) (R : Replies) (ws : List ℕ) (n : ℕ) (os : List Order) where
  pub performing_passed : (p : ℕ) (s : Range) → s.end ≤ s.start → performing h u R ws n (walking p s ∷ os) ≡ performing h u R ws n os
  unfolding performing
  performing_passed p s l = let e : ltb s.start s.end ≡ false = le-ltb _ _ l in rw e

  pub performing_walked : (p : ℕ) (s : Range) (c : ℕ) → s.start < s.end → (walk_over R s).answer ≡ Ok c
      → performing h u R ws n (walking p s ∷ os) ≡ with_walk (walk_over R s) (performing h u (since (walk_over R s).requests R) ws (n + c) os)
  unfolding performing
  performing_walked p s c l e =
      let b : ltb s.start s.end ≡ true = lt-ltb _ _ l in
      rw b (ap (λ (x : Result ℕ Told). with_walk (walk_over R s) (going_on x (λ k. performing h u (since (walk_over R s).requests R) ws (n + k) os) (λ t. outcome (Err (placed p 0 n t)) ws []))) e)

  pub performing_failed : (p : ℕ) (s : Range) (t : Told) → s.start < s.end → (walk_over R s).answer ≡ Err t
      → performing h u R ws n (walking p s ∷ os) ≡ with_walk (walk_over R s) (outcome (Err (placed p 0 n t)) ws [])
  unfolding performing
  performing_failed p s t l e =
      let b : ltb s.start s.end ≡ true = lt-ltb _ _ l in
      rw b (ap (λ (x : Result ℕ Told). with_walk (walk_over R s) (going_on x (λ k. performing h u (since (walk_over R s).requests R) ws (n + k) os) (λ t. outcome (Err (placed p 0 n t)) ws []))) e)

  pub performing_marked : (r : Run) → runs_in (marked ws) r.first r.behind ≡ []
      → performing h u R ws n (marking r ∷ os) ≡ performing h u R (units_set ws r.first r.behind) n os
  unfolding performing
  performing_marked r e = ap (λ (x : List Run). if_none x (performing h u R (units_set ws r.first r.behind) n os) (outcome (Err (overlap_at u n)) ws [])) e

  pub performing_overlap : (r q : Run) (l : List Run) → runs_in (marked ws) r.first r.behind ≡ q ∷ l
      → performing h u R ws n (marking r ∷ os) ≡ outcome (Err (overlap_at u n)) ws []
  unfolding performing
  performing_overlap r q l e = ap (λ (x : List Run). if_none x (performing h u R (units_set ws r.first r.behind) n os) (outcome (Err (overlap_at u n)) ws [])) e

  pub performing_cleared : (r : Run) (c : ℕ) → (walk_over R (addresses_of h r)).answer ≡ Ok c
      → performing h u R ws n (clearing r ∷ os)
      ≡ with_walk (walk_over R (addresses_of h r)) (performing h u (since (walk_over R (addresses_of h r)).requests R) (units_cleared ws r.first r.behind) (n + c) os)
  unfolding performing
  performing_cleared r c e =
      ap (λ (x : Result ℕ Told). with_walk (walk_over R (addresses_of h r)) (going_on x
      (λ k. performing h u (since (walk_over R (addresses_of h r)).requests R) (units_cleared ws r.first r.behind) (n + k) os) (λ t. outcome (Err (placed 0 r.first n t)) ws []))) e

  pub performing_stuck : (r : Run) (t : Told) → (walk_over R (addresses_of h r)).answer ≡ Err t
      → performing h u R ws n (clearing r ∷ os) ≡ with_walk (walk_over R (addresses_of h r)) (outcome (Err (placed 0 r.first n t)) ws [])
  unfolding performing
  performing_stuck r t e =
      ap (λ (x : Result ℕ Told). with_walk (walk_over R (addresses_of h r)) (going_on x
      (λ k. performing h u (since (walk_over R (addresses_of h r)).requests R) (units_cleared ws r.first r.behind) (n + k) os) (λ t. outcome (Err (placed 0 r.first n t)) ws []))) e

pub performing_none : (h : Shape) (u : ℕ) (R : Replies) (ws : List ℕ) (n : ℕ) → performing h u R ws n [] ≡ outcome (Ok n) ws []
unfolding performing
performing_none h u R ws n = refl

-- What holds of every plan, by what its first order comes to: Q speaks of the replies, the words, the count before, the orders
-- and the outcome.
pub record Cases (h : Shape) (u : ℕ) (Q : Replies → List ℕ → ℕ → List Order → Outcome ℕ → Type 0) : Type 0 where
  pub none : (R : Replies) (ws : List ℕ) (n : ℕ) → Q R ws n [] (outcome (Ok n) ws [])
  pub passed : (R : Replies) (ws : List ℕ) (n p : ℕ) (s : Range) (os : List Order) (o : Outcome ℕ) → s.end ≤ s.start → Q R ws n os o
      → Q R ws n (walking p s ∷ os) o
  pub walked : (R : Replies) (ws : List ℕ) (n p : ℕ) (s : Range) (os : List Order) (c : ℕ) (o : Outcome ℕ) → (walk_over R s).answer ≡ Ok c
      → Q (since (walk_over R s).requests R) ws (n + c) os o → Q R ws n (walking p s ∷ os) (with_walk (walk_over R s) o)
  pub failed : (R : Replies) (ws : List ℕ) (n p : ℕ) (s : Range) (os : List Order) (t : Told) → (walk_over R s).answer ≡ Err t
      → Q R ws n (walking p s ∷ os) (with_walk (walk_over R s) (outcome (Err (placed p 0 n t)) ws []))
  pub marks : (R : Replies) (ws : List ℕ) (n : ℕ) (r : Run) (os : List Order) (o : Outcome ℕ) → runs_in (marked ws) r.first r.behind ≡ [] → Q R (units_set ws r.first r.behind) n os o
      → Q R ws n (marking r ∷ os) o
  pub overlap : (R : Replies) (ws : List ℕ) (n : ℕ) (r : Run) (os : List Order) (q : Run) (l : List Run) → runs_in (marked ws) r.first r.behind ≡ q ∷ l → Q R ws n (marking r ∷ os) (outcome (Err (overlap_at u n)) ws [])
  pub cleared : (R : Replies) (ws : List ℕ) (n : ℕ) (r : Run) (os : List Order) (c : ℕ) (o : Outcome ℕ) → (walk_over R (addresses_of h r)).answer ≡ Ok c
      → Q (since (walk_over R (addresses_of h r)).requests R) (units_cleared ws r.first r.behind) (n + c) os o
      → Q R ws n (clearing r ∷ os) (with_walk (walk_over R (addresses_of h r)) o)
  pub stuck : (R : Replies) (ws : List ℕ) (n : ℕ) (r : Run) (os : List Order) (t : Told) → (walk_over R (addresses_of h r)).answer ≡ Err t
      → Q R ws n (clearing r ∷ os) (with_walk (walk_over R (addresses_of h r)) (outcome (Err (placed 0 r.first n t)) ws []))

module _ (h : Shape) (u : ℕ) (Q : Replies → List ℕ → ℕ → List Order → Outcome ℕ → Type 0) (k : Cases h u Q) where
  -- each order, where the rest is told
  abbrev Rest : List Order → Type 0
  Rest os = (R : Replies) (ws : List ℕ) (n : ℕ) → Q R ws n os (performing h u R ws n os)

  by_walking : (p : ℕ) (s : Range) (os : List Order) → Rest os → Rest (walking p s ∷ os)
  by_walking p s os rest R ws n =
      elim (cases_lt s.start s.end) [
        | inr l ↦ rw (performing_passed h u R ws n os p s l) (k.passed R ws n p s os _ l (rest R ws n))
        | inl l ↦ elim (cases_answer (walk_over R s).answer) [
          | inl x ↦
              rw (performing_walked h u R ws n os p s x.0 l x.1)
              (k.walked R ws n p s os x.0 _ x.1 (rest (since (walk_over R s).requests R) ws (n + x.0)))
          | inr x ↦ rw (performing_failed h u R ws n os p s x.0 l x.1) (k.failed R ws n p s os x.0 x.1)
        ]
      ]

  by_marking : (r : Run) (os : List Order) → Rest os → Rest (marking r ∷ os)
  by_marking r os rest R ws n =
      elim (cases_runs (runs_in (marked ws) r.first r.behind)) [
        | inl e ↦ rw (performing_marked h u R ws n os r e) (k.marks R ws n r os _ e (rest R (units_set ws r.first r.behind) n))
        | inr e ↦ rw (performing_overlap h u R ws n os r e.0 e.1 e.2) (k.overlap R ws n r os e.0 e.1 e.2)
      ]

  by_clearing : (r : Run) (os : List Order) → Rest os → Rest (clearing r ∷ os)
  by_clearing r os rest R ws n =
      elim (cases_answer (walk_over R (addresses_of h r)).answer) [
        | inl x ↦
            rw (performing_cleared h u R ws n os r x.0 x.1)
            (k.cleared R ws n r os x.0 _ x.1 (rest (since (walk_over R (addresses_of h r)).requests R) (units_cleared ws r.first r.behind) (n + x.0)))
        | inr x ↦ rw (performing_stuck h u R ws n os r x.0 x.1) (k.stuck R ws n r os x.0 x.1)
      ]

  by_none : Rest []
  by_none R ws n = rw (performing_none h u R ws n) (k.none R ws n)

  pub every_plan : (os : List Order) → (R : Replies) (ws : List ℕ) (n : ℕ) → Q R ws n os (performing h u R ws n os)
  every_plan [] = by_none
  every_plan (walking p s ∷ os) = by_walking p s os (every_plan os)
  every_plan (marking r ∷ os) = by_marking r os (every_plan os)
  every_plan (clearing r ∷ os) = by_clearing r os (every_plan os)

-- walks made one after the other, from replies R on: each is the walk over its span by the replies of that moment
abbrev pub Made : Replies → List Walk → Type 0
Made R [] = Unit {0}
Made R (w ∷ ws) = (w ≡ walk_over R w.span) × Made (since w.requests R) ws

-- the addresses that an order has to do with
abbrev pub area_of : Shape → Order → Range
area_of h (walking p s) = s
area_of h (marking r) = addresses_of h r
area_of h (clearing r) = addresses_of h r

-- a is one of them, for one of the orders
pub data Held (h : Shape) (a : ℕ) : List Order → Type 0 where
  here : {o : Order} {os : List Order} → Holds (area_of h o) a → Held h a (o ∷ os)
  there : {o : Order} {os : List Order} → Held h a os → Held h a (o ∷ os)

-- the units to be marked are no more than n
abbrev pub Below : ℕ → List Order → Type 0
Below n [] = Unit {0}
Below n (walking p s ∷ os) = Below n os
Below n (marking r ∷ os) = (r.behind ≤ n) × Below n os
Below n (clearing r ∷ os) = Below n os

-- a fault of a walk, or an overlap
abbrev pub Numbered : Told → Type 0
Numbered t = (t.refusal ≡ 1) ⊎ ((t.refusal ≡ 3) ⊎ (t.refusal ≡ 5))

-- an address is accepted after the walks, or marked by the words
abbrev pub Ends : Shape → Replies → Pages → Outcome ℕ → ℕ → Type 0
Ends h R P o a = (after R (requests_of o.walks) P (a / 4096) ≡ accepted) ⊎ Marked h o.words a

pub record Performed (h : Shape) (R : Replies) (P : Pages) (ws : List ℕ) (n : ℕ) (os : List Order) (o : Outcome ℕ) : Type 0 where
  pub made : Made R o.walks
  pub count : count_of o.answer ≡ n + length (requests_of o.walks)
  pub long : length o.words ≡ length ws
  -- a marked address stays marked, or is accepted
  pub safe : (a : ℕ) → Marked h ws a → Ends h R P o a
  -- a new mark is of one of the orders
  pub new : (a : ℕ) → Marked h o.words a → Marked h ws a ⊎ Held h a os
  -- so is what the walks went over
  pub spans : (w : Walk) → w ∈ o.walks → (a : ℕ) → Holds w.span a → Held h a os
  -- after a success all of it is accepted or marked
  pub done : (c : ℕ) → o.answer ≡ Ok c → (a : ℕ) → Held h a os → Ends h R P o a
  pub number : (t : Told) → o.answer ≡ Err t → Numbered t

nothing : (h : Shape) (R : Replies) (P : Pages) (ws : List ℕ) (n : ℕ) → Performed h R P ws n [] (outcome (Ok n) ws [])
nothing h R P ws n = record {
  made = tt;
  count = omega arith;
  long = refl;
  safe = λ a m. inr m;
  new = λ a m. inl m;
  spans = λ w i. elim i [ ];
  done = λ c e a i. elim i [ ];
  number = λ t e. ok_err n t e;
}

-- an order that walks, and what is done after it
module _ (h : Shape) (R : Replies) (P : Pages) (ws : List ℕ) (n : ℕ) (so : Sounds R P) (o : Order) (os : List Order) where
  abbrev walk : Walk
  walk = walk_over R (area_of h o)

  abbrev R₁ : Replies
  R₁ = since walk.requests R

  abbrev P₁ : Pages
  P₁ = after R walk.requests P

  kept : Promises (area_of h o).start (area_of h o).end R P P₁ walk.answer
  kept = promises (area_of h o).start (area_of h o).end R P so

  took : (c : ℕ) → walk.answer ≡ Ok c → (a : ℕ) → Holds (area_of h o) a → P₁ (a / 4096) ≡ accepted
  took c e a i = (kept.done c e (omega arith)).2 a i.0 i.1

  -- what holds of the rest holds with the walk before it
  later_ends : (out : Outcome ℕ) (a : ℕ) → Ends h R₁ P₁ out a → Ends h R P (with_walk walk out) a
  later_ends out a (inl e) = inl (ap (λ (X : Pages). X (a / 4096)) (after_append walk.requests (requests_of out.walks) R P) ∙ e)
  later_ends out a (inr m) = inr m

  stays : (out : Outcome ℕ) (a : ℕ) → P₁ (a / 4096) ≡ accepted → Ends h R P (with_walk walk out) a
  stays out a e = later_ends out a (inl (after_keeps R₁ (requests_of out.walks) P₁ (a / 4096) e))

  pub onward : (c : ℕ) → walk.answer ≡ Ok c → (ws' : List ℕ) (out : Outcome ℕ) → length ws' ≡ length ws
      → ((a : ℕ) → Marked h ws a → Marked h ws' a ⊎ Holds (area_of h o) a)
      → ((a : ℕ) → Marked h ws' a → Marked h ws a)
      → Performed h R₁ P₁ ws' (n + c) os out → Performed h R P ws n (o ∷ os) (with_walk walk out)
  onward c e ws' out l cleared less d =
      record {
        made = (refl, d.made);
        count = d.count ∙ (let k : c ≡ length walk.requests = ap count_of (sym e) ∙ kept.counted in omega (arith, length-append walk.requests (requests_of out.walks)));
        long = d.long ∙ l;
        safe = λ a m. safely a (cleared a m);
        new = λ a m. newly a (d.new a m);
        spans = spanned;
        done = ending;
        number = d.number;
      }
    where
      safely : (a : ℕ) → Marked h ws' a ⊎ Holds (area_of h o) a → Ends h R P (with_walk walk out) a
      safely a (inl m) = later_ends out a (d.safe a m)
      safely a (inr i) = stays out a (took c e a i)

      newly : (a : ℕ) → Marked h ws' a ⊎ Held h a os → Marked h ws a ⊎ Held h a (o ∷ os)
      newly a (inl m) = inl (less a m)
      newly a (inr i) = inr (there i)

      spanned : (w : Walk) → w ∈ (walk ∷ out.walks) → (a : ℕ) → Holds w.span a → Held h a (o ∷ os)
      spanned w (Memᴰ.head q) a i = here (subst (λ (v : Walk). Holds v.span a) q i)
      spanned w (Memᴰ.tail j) a i = there (d.spans w j a i)

      ending : (k : ℕ) → out.answer ≡ Ok k → (a : ℕ) → Held h a (o ∷ os) → Ends h R P (with_walk walk out) a
      ending k q a (here i) = stays out a (took c e a i)
      ending k q a (there i) = later_ends out a (d.done k q a i)

  pub stop : (t : Told) → walk.answer ≡ Err t → (p u : ℕ) → Performed h R P ws n (o ∷ os) (with_walk walk (outcome (Err (placed p u n t)) ws []))
  stop t e p u =
      record {
        made = (refl, tt);
        count = (let k : t.count ≡ length walk.requests = ap count_of (sym e) ∙ kept.counted in omega (arith, length-append walk.requests []));
        long = refl;
        safe = λ a m. inr m;
        new = λ a m. inl m;
        spans = spanned;
        done = λ c q. err_ok c (placed p u n t) q;
        number = λ v q. numbered v (same_err (placed p u n t) v q) (kept.failed t e);
      }
    where
      spanned : (w : Walk) → w ∈ (walk ∷ []) → (a : ℕ) → Holds w.span a → Held h a (o ∷ os)
      spanned w (Memᴰ.head q) a i = here (subst (λ (v : Walk). Holds v.span a) q i)
      spanned w (Memᴰ.tail j) a i = elim j [ ]

      numbered : (v : Told) → placed p u n t ≡ v → (t.refusal ≡ 1) ⊎ (t.refusal ≡ 5) → Numbered v
      numbered v q (inl x) = inl (sym (ap (λ (y : Told). y.refusal) q) ∙ x)
      numbered v q (inr x) = inr (inr (sym (ap (λ (y : Told). y.refusal) q) ∙ x))

-- a part without addresses is passed over
passes : (h : Shape) (R : Replies) (P : Pages) (ws : List ℕ) (n p : ℕ) (s : Range) (os : List Order) (out : Outcome ℕ)
    → s.end ≤ s.start → Performed h R P ws n os out → Performed h R P ws n (walking p s ∷ os) out
passes h R P ws n p s os out empty d =
    record {
      made = d.made;
      count = d.count;
      long = d.long;
      safe = d.safe;
      new = λ a m. newly a (d.new a m);
      spans = λ w i a j. there (d.spans w i a j);
      done = ending;
      number = d.number;
    }
  where
    newly : (a : ℕ) → Marked h ws a ⊎ Held h a os → Marked h ws a ⊎ Held h a (walking p s ∷ os)
    newly a (inl m) = inl m
    newly a (inr i) = inr (there i)

    ending : (k : ℕ) → out.answer ≡ Ok k → (a : ℕ) → Held h a (walking p s ∷ os) → Ends h R P out a
    ending k q a (here i) = absurd (omega arith)
    ending k q a (there i) = d.done k q a i

-- units are marked
marked_then : (h : Shape) (R : Replies) (P : Pages) (ws : List ℕ) (n : ℕ) (r : Run) (os : List Order) (out : Outcome ℕ) → 0 < h.unit → r.behind ≤ 64 * length ws
    → Performed h R P (units_set ws r.first r.behind) n os out → Performed h R P ws n (marking r ∷ os) out
marked_then h R P ws n r os out some fits d =
    record {
      made = d.made;
      count = d.count;
      long = d.long ∙ length_written 1 ws r.first r.behind;
      safe = λ a m. d.safe a (set_keeps_at h ws r a m);
      new = λ a m. newly a (d.new a m);
      spans = λ w i a j. there (d.spans w i a j);
      done = ending;
      number = d.number;
    }
  where
    newly : (a : ℕ) → Marked h (units_set ws r.first r.behind) a ⊎ Held h a os → Marked h ws a ⊎ Held h a (marking r ∷ os)
    newly a (inl m) = elim (set_cases_at h ws r a m) [ inl i ↦ inr (here i) | inr k ↦ inl k ]
    newly a (inr i) = inr (there i)

    ending : (k : ℕ) → out.answer ≡ Ok k → (a : ℕ) → Held h a (marking r ∷ os) → Ends h R P out a
    ending k q a (here i) = d.safe a (set_here_at h ws r a some fits i)
    ending k q a (there i) = d.done k q a i

-- or one is marked already
overlaps : (h : Shape) (R : Replies) (P : Pages) (ws : List ℕ) (n u : ℕ) (o : Order) (os : List Order) → Performed h R P ws n (o ∷ os) (outcome (Err (overlap_at u n)) ws [])
overlaps h R P ws n u o os = record {
  made = tt;
  count = omega arith;
  long = refl;
  safe = λ a m. inr m;
  new = λ a m. inl m;
  spans = λ w i. elim i [ ];
  done = λ c e. err_ok c (overlap_at u n) e;
  number = λ t e. inr (inl (sym (ap (λ (y : Told). y.refusal) (same_err (overlap_at u n) t e))));
}

pub performed : (h : Shape) (u : ℕ) → 0 < h.unit → (os : List Order) (R : Replies) (ws : List ℕ) (n : ℕ) (P : Pages) → Sounds R P → Below (64 * length ws) os
    → Performed h R P ws n os (performing h u R ws n os)
performed h u some =
    every_plan h u (λ R ws n os o. (P : Pages) → Sounds R P → Below (64 * length ws) os → Performed h R P ws n os o) (record {
      none = λ R ws n P so b. nothing h R P ws n;
      passed = λ R ws n p s os o l q P so b. passes h R P ws n p s os o l (q P so b);
      walked = λ R ws n p s os c o e q P so b.
          onward h R P ws n so (walking p s) os c e ws o refl (λ a m. inl m) (λ a m. m) (q (after R (walk_over R s).requests P) (sounds_since R P (walk_over R s).requests so) b);
      failed = λ R ws n p s os t e P so b. stop h R P ws n so (walking p s) os t e p 0;
      marks = λ R ws n r os o e q P so b.
          marked_then h R P ws n r os o some b.0 (q P so (rw (length_written 1 ws r.first r.behind) b.1));
      overlap = λ R ws n r os x l e P so b. overlaps h R P ws n u (marking r) os;
      cleared = λ R ws n r os c o e q P so b.
          onward h R P ws n so (clearing r) os c e (units_cleared ws r.first r.behind) o (length_written 0 ws r.first r.behind)
          (λ a m. clear_cases_at h ws r a m) (λ a m. clear_less_at h ws r a m)
          (q (after R (walk_over R (addresses_of h r)).requests P) (sounds_since R P (walk_over R (addresses_of h r)).requests so) (rw (length_written 0 ws r.first r.behind) b));
      stuck = λ R ws n r os t e P so b. stop h R P ws n so (clearing r) os t e 0 r.first;
    })
