-- Calls and answers are told apart.
use Rattle.std.proofs.Common.{◌≡◌, ℕ, ◌<◌, Ok, Err, Result, sym, refl, ap, ◌∙◌, arith}
use Rattle.fault.specs.Refusals.{Told}
use Rattle.accept_memory.specs.Promises.{count_of}
use Rattle.efi_table.specs.declared.layout.Range.{Range}
use Rattle.unaccepted_memory.specs.History.{Call, register, accept, claim, settle, restore, Answer, counted, claimed, none, restored, refused, by_count, Event}
use Rattle.unaccepted_memory.specs.Promises.{HandedTo, count_in}

abbrev pub call_number : Call → ℕ
call_number (register s) = 0
call_number (accept s) = 1
call_number (claim s) = 2
call_number (settle s) = 3
call_number (restore s) = 4

abbrev pub range_in : Call → Range → Range
range_in (register s) d = s
range_in (accept s) d = d
range_in (claim s) d = d
range_in (settle s) d = d
range_in (restore s) d = d

pub same_range : (c : Call) (s r : Range) → c ≡ register s → c ≡ register r → s ≡ r
same_range c s r p q = ap (λ (x : Call). range_in x s) (sym p ∙ q)

pub not_registering : {A : Type 0} (e : Event) (c : Call) (a : ℕ) → e.call ≡ c → 0 < call_number c → HandedTo e a → A
not_registering e c a p l i = let z : 0 ≡ call_number c = ap call_number (sym i.1 ∙ p) in absurd (omega arith)

abbrev pub answer_number : Answer → ℕ
answer_number (counted n) = 0
answer_number (claimed c) = 1
answer_number none = 2
answer_number restored = 3
answer_number (refused t) = 4

abbrev pub count_answered : Answer → ℕ
count_answered (counted n) = n
count_answered (claimed c) = 0
count_answered none = 0
count_answered restored = 0
count_answered (refused t) = 0

abbrev pub fault_by : Answer → Told → Told
fault_by (counted n) d = d
fault_by (claimed c) d = d
fault_by none d = d
fault_by restored d = d
fault_by (refused t) d = t

pub by_ok : (r : Result ℕ Told) (c : ℕ) → by_count r ≡ counted c → r ≡ Ok c
by_ok (Ok x) c q = ap Ok (ap count_answered q)
by_ok (Err t) c q = let z : ◌≡◌ {A = ℕ} 4 0 = ap answer_number q in absurd (omega arith)

pub by_err : (r : Result ℕ Told) (t : Told) → by_count r ≡ refused t → r ≡ Err t
by_err (Ok x) t q = let z : ◌≡◌ {A = ℕ} 0 4 = ap answer_number q in absurd (omega arith)
by_err (Err v) t q = ap Err (ap (λ (x : Answer). fault_by x v) q)

pub count_by_answer : (r : Result ℕ Told) → count_in (by_count r) ≡ count_of r
count_by_answer (Ok x) = refl
count_by_answer (Err t) = refl
