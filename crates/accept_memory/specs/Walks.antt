-- A walk over the addresses from a start to an end, by plain numbers: its steps, and what they come to over the replies
-- of a host.
use Rattle.std.specs.Prelude.{ℕ, zero, suc, ◌+◌, ◌-◌, ◌/◌, ◌%◌, Bool, if◌then◌else◌, ◌&&◌, ◌||◌, List, [], ◌∷◌, Some, None, Ok, Err, Option, Result, ◌==◌, nat_le}
use Rattle.tdcall.specs.declared.TdCallError.{TdCallError}
use Rattle.tdcall.specs.declared.TdCallError.TheVariants.{TdxPageAlreadyAccepted, TdxPageSizeMismatch, TdxOperandInvalid}
use Rattle.tdcall.specs.Statuses.{number, named, class_of}
use Rattle.fault.specs.Refusals.{Told}
use Rattle.host.specs.Pages.{Request, accepting, size}
use Rattle.host.specs.Replies.{Replies, later}
use Rattle.accept_memory.specs.declared.walk.step.ReplyClass.{ReplyClass}
use Rattle.accept_memory.specs.declared.walk.step.ReplyClass.TheVariants.{Success, AlreadyAccepted, TooLarge, Failure}

-- asking for the block of a level at the next address; at the end; at an address where no block fits before the end; or
-- ended by the reply to a request of a level
pub data State : Type 0 where
  asking : ℕ → State
  finished : State
  misaligned : State
  refused : ℕ → State

pub record View : Type 0 where
  pub next : ℕ
  pub end : ℕ
  pub count : ℕ
  pub status : ℕ
  pub state : State

-- the block of level l at address a is aligned and ends by e
abbrev pub fits : ℕ → ℕ → ℕ → Bool
fits a e l = a % size l == 0 && nat_le (size l) (e - a)

-- at address a a walk to e asks for the largest block that fits
abbrev pub arrive : ℕ → ℕ → State
arrive a e =
    if nat_le e a then finished
    else (if fits a e 2 then asking 2
    else (if fits a e 1 then asking 1
    else (if fits a e 0 then asking 0 else misaligned)))

abbrev pub begun : ℕ → ℕ → View
begun s e = record { next = s; end = e; count = 0; status = 0; state = arrive s e }

-- what a reply means to a walk, by the whole reply and its class
abbrev pub reply_class : ℕ → ReplyClass
reply_class r =
    if r == 0 then Success
    else (if class_of r == number TdxPageAlreadyAccepted then AlreadyAccepted
    else (if class_of r == number TdxPageSizeMismatch || class_of r == number TdxOperandInvalid then TooLarge else Failure))

-- the block is accepted; a smaller one is to be asked for; or the walk ends
pub data Verdict : Type 0 where
  onward : Verdict
  lower : Verdict
  stop : Verdict

-- what a reply of a class does at a level
abbrev pub verdict : ℕ → ReplyClass → Verdict
verdict l Success = onward
verdict l AlreadyAccepted = if l == 0 then onward else lower
verdict l TooLarge = if l == 0 then stop else lower
verdict l Failure = stop

abbrev pub turned : Verdict → ℕ → ℕ → View → View
turned onward l r w = record { next = w.next + size l; end = w.end; count = w.count + 1; status = r; state = arrive (w.next + size l) w.end }
turned lower l r w = record { next = w.next; end = w.end; count = w.count + 1; status = r; state = asking (l - 1) }
turned stop l r w = record { next = w.next; end = w.end; count = w.count + 1; status = r; state = refused l }

-- one thing for the level that a walk asks for, and another where it does not ask
abbrev pub by_state : {A : Type 0} → State → (ℕ → A) → A → A
by_state (asking l) f x = f l
by_state finished f x = x
by_state misaligned f x = x
by_state (refused l) f x = x

-- a walk after a reply; one that does not ask ignores it
abbrev pub replied : View → ℕ → View
replied w r = by_state w.state (λ l. turned (verdict l (reply_class r)) l r w) w

abbrev pub next_request : View → Option Request
next_request w = by_state w.state (λ l. Some (accepting l w.next)) None

-- a fault of the walk itself has its address alone
abbrev pub misaligned_at : ℕ → ℕ → Told
misaligned_at a n = record { refusal = 1; reason = 0; layer = 2; status = 0; level = 0; address = a; count = n; part = 0; unit = 0 }

-- a fault of the host has its reply, and the level and the address of the request
abbrev pub refused_at : TdCallError → ℕ → ℕ → ℕ → ℕ → Told
refused_at e r l a n = record { refusal = 5; reason = number e; layer = 1; status = r; level = l; address = a; count = n; part = 0; unit = 0 }

-- an error of the host's reply to a request of level l, with the places of a walk
abbrev pub placed : View → ℕ → Result (Unit {0}) TdCallError → Result (Unit {0}) Told
placed w l (Ok x) = Ok x
placed w l (Err e) = Err (refused_at e w.status l w.next w.count)

-- the count of a walk, or its fault
abbrev pub answer_in : State → View → Result ℕ Told
answer_in (asking l) w = Ok w.count
answer_in finished w = Ok w.count
answer_in misaligned w = Err (misaligned_at w.next w.count)
answer_in (refused l) w = Err (refused_at (named (class_of w.status)) w.status l w.next w.count)

abbrev pub answer_of : View → Result ℕ Told
answer_of w = answer_in w.state w

-- what a walk answers once it has stopped
abbrev pub last_answer : View → Option (Result ℕ Told)
last_answer w = by_state w.state (λ l. None) (Some (answer_of w))

-- the walk after at most k steps over the replies R, and the requests that it makes in them
unfoldable pub ended : ℕ → Replies → View → View
ended zero R w = w
ended (suc k) R w = by_state w.state (λ l. ended k (later (accepting l w.next) R) (replied w (R [] (accepting l w.next)))) w

unfoldable pub asked : ℕ → Replies → View → List Request
asked zero R w = []
asked (suc k) R w = by_state w.state (λ l. accepting l w.next ∷ asked k (later (accepting l w.next) R) (replied w (R [] (accepting l w.next)))) []

-- how many blocks of level l lie wholly in [s, e): from the first multiple of the size at s or above
abbrev pub blocks : ℕ → ℕ → ℕ → ℕ
blocks l s e = e / size l - (s + (size l - 1)) / size l

-- the pages, the 2 MiB blocks and the 1 GiB blocks of a span: more steps than these no walk of it takes
abbrev pub bound : ℕ → ℕ → ℕ
bound s e = blocks 0 s e + blocks 1 s e + blocks 2 s e

-- a whole walk of [s, e)
abbrev pub walk_end : Replies → ℕ → ℕ → View
walk_end R s e = ended (bound s e) R (begun s e)

abbrev pub walk_requests : Replies → ℕ → ℕ → List Request
walk_requests R s e = asked (bound s e) R (begun s e)

abbrev pub walk_answer : Replies → ℕ → ℕ → Result ℕ Told
walk_answer R s e = answer_of (walk_end R s e)
