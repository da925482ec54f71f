-- Where a walk asks, and how much is left of it: each step uses up a block of its span.
use Rattle.std.proofs.Common.{◌≡◌, ℕ, zero, suc, ◌+◌, ◌-◌, ◌%◌, ◌<◌, ◌≤◌, Bool, true, false, cond, leb, refl, arith}
use Rattle.std.proofs.lemmas.Bool.{and_parts, eqb-true, leb-true, leb-false}
use Rattle.host.specs.Pages.{size}
use Rattle.accept_memory.specs.declared.walk.step.ReplyClass.{ReplyClass}
use Rattle.accept_memory.specs.declared.walk.step.ReplyClass.TheVariants.{Success, AlreadyAccepted, TooLarge, Failure}
use Rattle.accept_memory.specs.Walks.{State, asking, finished, misaligned, refused, View, Verdict, onward, lower, stop, verdict, turned, by_state, fits, arrive, begun, blocks, bound}

-- a block of level l at a, before e
pub record Block (a e l : ℕ) : Type 0 where
  pub low : l ≤ 2
  pub aligned : a % size l ≡ 0
  pub ends : a + size l ≤ e

-- a walk asks only for a block that fits before its end
abbrev pub PlacedIn : State → ℕ → ℕ → Type 0
PlacedIn (asking l) a e = Block a e l
PlacedIn finished a e = Unit {0}
PlacedIn misaligned a e = Unit {0}
PlacedIn (refused l) a e = Unit {0}

abbrev pub Placed : View → Type 0
Placed w = PlacedIn w.state w.next w.end

-- on arriving at an address, a walk is at its end, or asks for a block that fits, or none fits
pub arrive_by : (a e : ℕ) (Q : State → Type 0) → (e ≤ a → Q finished) → ((l : ℕ) → Block a e l → Q (asking l)) → (a < e → fits a e 0 ≡ false → Q misaligned) → Q (arrive a e)
arrive_by a e Q done block none = from (leb e a) refl
  where
    fitting : (l : ℕ) → l ≤ 2 → a < e → fits a e l ≡ true → Q (asking l)
    fitting l low lt t =
        let b = and_parts _ _ t in
        let s : size l ≤ e - a = leb-true _ _ b.1 in
        block l (record { low = low; aligned = eqb-true _ _ b.0; ends = omega arith })

    at0 : a < e → (b : Bool) → fits a e 0 ≡ b → Q (cond b (asking 0) misaligned)
    at0 lt true t = fitting 0 (omega arith) lt t
    at0 lt false t = none lt t

    at1 : a < e → (b : Bool) → fits a e 1 ≡ b → Q (cond b (asking 1) (cond (fits a e 0) (asking 0) misaligned))
    at1 lt true t = fitting 1 (omega arith) lt t
    at1 lt false t = at0 lt (fits a e 0) refl

    at2 : a < e → (b : Bool) → fits a e 2 ≡ b → Q (cond b (asking 2) (cond (fits a e 1) (asking 1) (cond (fits a e 0) (asking 0) misaligned)))
    at2 lt true t = fitting 2 (omega arith) lt t
    at2 lt false t = at1 lt (fits a e 1) refl

    from : (b : Bool) → leb e a ≡ b → Q (cond b finished (cond (fits a e 2) (asking 2) (cond (fits a e 1) (asking 1) (cond (fits a e 0) (asking 0) misaligned))))
    from true t = done (leb-true e a t)
    from false t = at2 (leb-false e a t) (fits a e 2) refl

pub arrive_placed : (a e : ℕ) → PlacedIn (arrive a e) a e
arrive_placed a e = arrive_by a e (λ s. PlacedIn s a e) (λ _. tt) (λ l b. b) (λ _ _. tt)

-- a block begins at a page
pub block_page : (a e l : ℕ) → Block a e l → a % 4096 ≡ 0
block_page a e zero b = b.aligned
block_page a e (suc zero) b = let x = b.aligned in omega arith
block_page a e (suc (suc zero)) b = let x = b.aligned in omega arith
block_page a e (suc (suc (suc l))) b = absurd (omega (arith, b.low))

-- what fits at a level fits at the one below
pub block_lower : (a e l : ℕ) → 0 < l → Block a e l → Block a e (l - 1)
block_lower a e zero p b = absurd (omega arith)
block_lower a e (suc zero) p b = let x = b.aligned in let y = b.ends in record { low = omega arith; aligned = omega arith; ends = omega arith }
block_lower a e (suc (suc zero)) p b = let x = b.aligned in let y = b.ends in record { low = omega arith; aligned = omega arith; ends = omega arith }
block_lower a e (suc (suc (suc l))) p b = absurd (omega (arith, b.low))

-- a smaller block is asked for only above level 0
pub verdict_lower : (l : ℕ) (c : ReplyClass) → verdict l c ≡ lower → 0 < l
verdict_lower zero c e = absurd (none c e)
  where
    none : (c : ReplyClass) → verdict 0 c ≡ lower → ⊥
    none Success e = let z : ◌≡◌ {A = ℕ} 0 1 = cc in omega arith
    none AlreadyAccepted e = let z : ◌≡◌ {A = ℕ} 0 1 = cc in omega arith
    none TooLarge e = let z : ◌≡◌ {A = ℕ} 0 1 = cc in omega arith
    none Failure e = let z : ◌≡◌ {A = ℕ} 0 1 = cc in omega arith
verdict_lower (suc l) c e = omega arith

pub turned_placed : (w : View) (l r : ℕ) (v : Verdict) → (v ≡ lower → 0 < l) → Block w.next w.end l → Placed (turned v l r w)
turned_placed w l r onward h b = arrive_placed (w.next + size l) w.end
turned_placed w l r lower h b = block_lower w.next w.end l (h refl) b
turned_placed w l r stop h b = tt

-- the blocks that a walk at address a, about to ask at level l, can still ask for: those that begin behind a, and at a
-- those of its level and below
abbrev pub left_at : ℕ → ℕ → ℕ → ℕ
left_at a e zero = blocks 0 a e + blocks 1 (a + 1) e + blocks 2 (a + 1) e
left_at a e (suc zero) = blocks 0 a e + blocks 1 a e + blocks 2 (a + 1) e
left_at a e (suc (suc l)) = blocks 0 a e + blocks 1 a e + blocks 2 a e

abbrev pub left : View → ℕ
left w = by_state w.state (left_at w.next w.end) 0

left_some : (a e l : ℕ) → Block a e l → 0 < left_at a e l
left_some a e zero b = let y = b.ends in let x = b.aligned in omega arith
left_some a e (suc zero) b = let y = b.ends in let x = b.aligned in omega arith
left_some a e (suc (suc zero)) b = let y = b.ends in let x = b.aligned in omega arith
left_some a e (suc (suc (suc l))) b = absurd (omega (arith, b.low))

left_lower : (a e l : ℕ) → 0 < l → Block a e l → left_at a e (l - 1) < left_at a e l
left_lower a e zero p b = absurd (omega arith)
left_lower a e (suc zero) p b = let y = b.ends in let x = b.aligned in omega arith
left_lower a e (suc (suc zero)) p b = let y = b.ends in let x = b.aligned in omega arith
left_lower a e (suc (suc (suc l))) p b = absurd (omega (arith, b.low))

-- all blocks of the span at a or behind
left_all : (a e l : ℕ) → left_at a e l ≤ bound a e
left_all a e zero = omega arith
left_all a e (suc zero) = omega arith
left_all a e (suc (suc l)) = omega arith

-- behind a block of level l at a, there is one block less of that level and no more of any other
module _ (a e : ℕ) where
  fewer : (x x' y y' z z' : ℕ) → x < x' → y ≤ y' → z ≤ z' → x + y + z < x' + y' + z'
  fewer x x' y y' z z' h i j = omega arith

  behind1 : (b : ℕ) → a + 1 ≤ b → blocks 1 b e ≤ blocks 1 (a + 1) e
  behind1 b h = omega arith

  behind2 : (b : ℕ) → a + 1 ≤ b → blocks 2 b e ≤ blocks 2 (a + 1) e
  behind2 b h = omega arith

  one_less : (b : ℕ) → a % 4096 ≡ 0 → a + 4096 ≤ b → b ≤ e → blocks 0 b e < blocks 0 a e
  one_less b x h i = omega arith

  left_onward : (l : ℕ) → Block a e l → bound (a + size l) e < left_at a e l
  left_onward zero b = let x = b.aligned in let y = b.ends in fewer _ _ _ _ _ _ (one_less (a + 4096) x (omega arith) y) (behind1 (a + 4096) (omega arith)) (behind2 (a + 4096) (omega arith))
  left_onward (suc zero) b =
      let x = b.aligned in
      let y = b.ends in
      fewer _ _ _ _ _ _ (one_less (a + 2097152) (omega arith) (omega arith) y) (omega arith) (behind2 (a + 2097152) (omega arith))
  left_onward (suc (suc zero)) b =
      let x = b.aligned in
      let y = b.ends in
      fewer _ _ _ _ _ _ (one_less (a + 1073741824) (omega arith) (omega arith) y) (omega arith) (omega arith)
  left_onward (suc (suc (suc l))) b = absurd (omega (arith, b.low))

left_state : (s : State) (a e : ℕ) → by_state s (left_at a e) 0 ≤ bound a e
left_state (asking l) a e = left_all a e l
left_state finished a e = omega arith
left_state misaligned a e = omega arith
left_state (refused l) a e = omega arith

pub left_begun : (s e : ℕ) → left (begun s e) ≤ bound s e
left_begun s e = left_state (arrive s e) s e

pub left_turned : (w : View) (l r : ℕ) (v : Verdict) → (v ≡ lower → 0 < l) → Block w.next w.end l → left (turned v l r w) < left_at w.next w.end l
left_turned w l r onward h b =
    let s = left_state (arrive (w.next + size l) w.end) (w.next + size l) w.end in
    let t = left_onward w.next w.end l b in
    omega arith
left_turned w l r lower h b = left_lower w.next w.end l (h refl) b
left_turned w l r stop h b = left_some w.next w.end l b
