-- One turn of the direct walk: a request, its reply, and the walk's step.
use Rattle.std.proofs.Common.{◌≡◌, ℕ, zero, suc, ◌<◌, ◌≤◌, [], Some, None, sym, ap, ◌∙◌, arith}
use Rattle.host.specs.Pages.{Request, accepting}
use Rattle.host.specs.States.{HostState, received}
use Rattle.host.specs.declared.page_level.PageLevel.{PageLevel}
use Rattle.host.specs.declared.page_level.PageLevel.TheVariants.{L1_4K, L2_2M, L3_1G}
use Rattle.host.specs.Levels.{level_number}
use Rattle.accept_memory.specs.Walks.{asking, View, replied, next_request}
use Rattle.accept_memory.specs.Promises.{Still}
use Rattle.accept_memory.proofs.Places.{Placed, left}
use Rattle.accept_memory.proofs.Outcomes.{rest, rest_step, asks, still, asks_or_still, by_state_still, left_replied, replied_placed}

pub low_level : (l : PageLevel) → level_number l ≤ 2
low_level = elim [ L1_4K ↦ omega arith | L2_2M ↦ omega arith | L3_1G ↦ omega arith ]

-- a request is that of a walk that asks
module _ (w : View) (l a : ℕ) (q : Some (accepting l a) ≡ next_request w) where
  pub record Asked : Type 0 where
    pub state : w.state ≡ asking l
    pub next : w.next ≡ a

  pub asked_now : Asked
  asked_now = elim (asks_or_still w.state) [
    | asks m s ↦
        let is : next_request w ≡ Some (accepting m w.next) = rw s in
        let e = q ∙ is in
        let same : m ≡ l = cc in
        record { state = s ∙ ap asking same; next = cc }
    | still h ↦
        let e : Some (accepting l a) ≡ None = q ∙ by_state_still w.state _ None h in
        let z : ◌≡◌ {A = ℕ} 0 1 = cc in absurd (omega arith)
  ]

-- a walk that has no request is still
pub still_now : (w : View) → None ≡ next_request w → Still w.state
still_now w q = elim (asks_or_still w.state) [
  | asks m s ↦
      let is : next_request w ≡ Some (accepting m w.next) = rw s in
      let e = q ∙ is in
      let z : ◌≡◌ {A = ℕ} 0 1 = cc in absurd (omega arith)
  | still h ↦ h
]

pub record Turn (h h' : HostState) (w w' : View) (l a r : ℕ) : Type 0 where
  pub asks : Some (accepting l a) ≡ next_request w
  pub placed : Placed w
  pub answer : r ≡ h.replies [] (accepting l a)
  pub state : h' ≡ received (accepting l a) h
  pub view : w' ≡ replied w r

module _ (h h' : HostState) (w w' : View) (l a r : ℕ) (t : Turn h h' w w' l a r) where
  pub turn_less : left w' < left w
  turn_less = rw t.view (left_replied w l r (asked_now w l a t.asks).state t.placed)

  pub turn_placed : Placed w'
  turn_placed = rw t.view (replied_placed w l r (asked_now w l a t.asks).state t.placed)

  pub turn_rest : (k : ℕ) → left w ≤ suc k → rest k h' w' ≡ rest (suc k) h w
  turn_rest k b =
      let q = asked_now w l a t.asks in
      rw (t.view, t.state, t.answer) (step_of (accepting l a) (ap (accepting l) (sym q.next)) q.state)
    where
      step_of : (q : Request) → q ≡ accepting l w.next → w.state ≡ asking l → rest k (received q h) (replied w (h.replies [] q)) ≡ rest (suc k) h w
      step_of q e s = rw e (rest_step k h w l s)

  pub turn_again : (k : ℕ) → left w ≤ k → (j : ℕ) × (left w' ≤ j) × (rest j h' w' ≡ rest k h w)
  turn_again zero b = absurd (omega (arith, turn_less))
  turn_again (suc k) b = (k, omega (arith, turn_less), turn_rest k b)
