-- What is left of a walk over the replies of a host, as one value, and its steps.
use Rattle.std.proofs.Common.{◌≡◌, ℕ, zero, suc, ◌<◌, [], ◌∷◌, refl}
use Rattle.host.specs.Pages.{Request, accepting}
use Rattle.host.specs.Replies.{Replies, later}
use Rattle.host.specs.States.{HostState, received, received_all}
use Rattle.host.proofs.Layers.{received_none, received_more}
use Rattle.accept_memory.specs.Walks.{State, asking, finished, misaligned, refused, View, turned, verdict, reply_class, replied, by_state, ended, asked, begun}
use Rattle.accept_memory.specs.Promises.{Still}
use Rattle.accept_memory.proofs.Places.{Block, Placed, turned_placed, verdict_lower, left, left_turned, arrive_placed, left_at}

pub record Outcome : Type 0 where
  pub view : View
  pub host : HostState

abbrev pub rest : ℕ → HostState → View → Outcome
rest k h w = record { view = ended k h.replies w; host = received_all (asked k h.replies w) h }

-- it asks, or it does not
pub data Asks (s : State) : Type 0 where
  asks : (l : ℕ) → s ≡ asking l → Asks s
  still : Still s → Asks s

pub asks_or_still : (s : State) → Asks s
asks_or_still (asking l) = asks l refl
asks_or_still finished = still tt
asks_or_still misaligned = still tt
asks_or_still (refused l) = still tt

pub by_state_still : {A : Type 0} (s : State) (f : ℕ → A) (x : A) → Still s → by_state s f x ≡ x
by_state_still (asking l) f x h = absurd h
by_state_still finished f x h = refl
by_state_still misaligned f x h = refl
by_state_still (refused l) f x h = refl

pub ended_still : (k : ℕ) (R : Replies) (w : View) → Still w.state → ended k R w ≡ w
unfolding ended
ended_still zero R w h = refl
ended_still (suc k) R w h = by_state_still w.state _ w h

pub asked_still : (k : ℕ) (R : Replies) (w : View) → Still w.state → asked k R w ≡ []
unfolding asked
asked_still zero R w h = refl
asked_still (suc k) R w h = by_state_still w.state _ [] h

pub rest_still : (k : ℕ) (h : HostState) (w : View) → Still w.state → record { view = w; host = h } ≡ rest k h w
rest_still k h w s = rw (ended_still k h.replies w s, asked_still k h.replies w s, received_none h)

-- one request, its reply, and what is left after it
module _ (k : ℕ) (R : Replies) (w : View) (l : ℕ) (s : w.state ≡ asking l) where
  abbrev pub request : Request
  request = accepting l w.next

  pub ended_step : ended (suc k) R w ≡ ended k (later (accepting l w.next) R) (replied w (R [] (accepting l w.next)))
  unfolding ended
  ended_step = rw s

  pub asked_step : asked (suc k) R w ≡ accepting l w.next ∷ asked k (later (accepting l w.next) R) (replied w (R [] (accepting l w.next)))
  unfolding asked
  asked_step = rw s

pub rest_step : (k : ℕ) (h : HostState) (w : View) (l : ℕ) → w.state ≡ asking l
    → rest k (received (accepting l w.next) h) (replied w (h.replies [] (accepting l w.next))) ≡ rest (suc k) h w
rest_step k h w l s =
    let q = accepting l w.next in
    rw (ended_step k h.replies w l s, asked_step k h.replies w l s, received_more h q (asked k (later q h.replies) (replied w (h.replies [] q))))

-- a step of a walk that asks
module _ (w : View) (l r : ℕ) (s : w.state ≡ asking l) (p : Placed w) where
  pub block_here : Block w.next w.end l
  block_here = rw s at p

  pub replied_is : replied w r ≡ turned (verdict l (reply_class r)) l r w
  replied_is = rw s

  pub replied_placed : Placed (replied w r)
  replied_placed = rw replied_is (turned_placed w l r (verdict l (reply_class r)) (verdict_lower l (reply_class r)) block_here)

  pub left_replied : left (replied w r) < left w
  left_replied =
      let h = left_turned w l r (verdict l (reply_class r)) (verdict_lower l (reply_class r)) block_here in
      let is : left w ≡ left_at w.next w.end l = rw s in
      rw (replied_is, is) h

pub begun_placed : (s e : ℕ) → Placed (begun s e)
begun_placed s e = arrive_placed s e
