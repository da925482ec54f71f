-- What the calls do, in the words of units, windows and walks.
use Rattle.std.proofs.Common.{◌≡◌, ℕ, ◌⊎◌, List, [], ◌∷◌, map, Some, None, Err, Result, sym, refl, ap, subst, inl, inr}
use Rattle.std.proofs.lemmas.Bool.{cases_Bool, cond-true, cond-false}
use Rattle.fault.specs.Refusals.{Told}
use Rattle.host.specs.Replies.{Replies}
use Rattle.accept_memory.specs.Walks.{State, asking, finished, misaligned, refused, View, answer_in, walk_end}
use Rattle.efi_table.specs.declared.layout.Range.{Range}
use Rattle.efi_table.specs.Shapes.{Shape}
use Rattle.efi_table.specs.Images.{is_image}
use Rattle.unaccepted_memory.specs.Runs.{Run}
use Rattle.unaccepted_memory.specs.Plans.{walk_over, Outcome, outcome, addresses_of, Order, clearing, placed, overlap_at, performing}
use Rattle.unaccepted_memory.specs.Calls.{bitmap_of, wrong_image, in_image, on_image, parts_of, register_in, runs_over, accept_in, claim_first, claim_in, settle_in, restore_in}
use Rattle.unaccepted_memory.specs.CallLaws.{Untouched, RefusalsLaw, WrongLaw}
use Rattle.unaccepted_memory.proofs.Results.{ok_err, same_err}
use Rattle.unaccepted_memory.proofs.PlanLaws.{every_plan, Numbered}

-- a walk fails by 1 or by 5
fails_in : (s : State) (v : View) (t : Told) → answer_in s v ≡ Err t → (t.refusal ≡ 1) ⊎ (t.refusal ≡ 5)
fails_in (asking l) v t e = ok_err _ t e
fails_in finished v t e = ok_err _ t e
fails_in misaligned v t e = inl (sym (ap (λ (y : Told). y.refusal) (same_err _ t e)))
fails_in (refused l) v t e = inr (sym (ap (λ (y : Told). y.refusal) (same_err _ t e)))

pub walk_fails : (R : Replies) (s : Range) (t : Told) → (walk_over R s).answer ≡ Err t → (t.refusal ≡ 1) ⊎ (t.refusal ≡ 5)
walk_fails R s t e = fails_in (walk_end R s.start s.end).state (walk_end R s.start s.end) t e

walk_number : (R : Replies) (s : Range) (t : Told) → (walk_over R s).answer ≡ Err t → Numbered t
walk_number R s t e = by (walk_fails R s t e)
  where
    by : (t.refusal ≡ 1) ⊎ (t.refusal ≡ 5) → Numbered t
    by (inl x) = inl x
    by (inr x) = inr (inr x)

placed_number : (p u n : ℕ) (v t : Told) → Numbered v → ◌≡◌ {A = Result ℕ Told} (Err (placed p u n v)) (Err t) → Numbered t
placed_number p u n v t k e = subst Numbered (same_err (placed p u n v) t e) k

-- a plan fails by 1, 3 or 5
plan_number : (h : Shape) (u : ℕ) (os : List Order) (R : Replies) (ws : List ℕ) (n : ℕ) (t : Told) → (performing h u R ws n os).answer ≡ Err t → Numbered t
plan_number h u =
    every_plan h u (λ R ws n os o. (t : Told) → o.answer ≡ Err t → Numbered t) (record {
      none = λ R ws n t e. ok_err n t e;
      passed = λ R ws n p s os o l q. q;
      walked = λ R ws n p s os c o x q. q;
      failed = λ R ws n p s os v x t e. placed_number p 0 n v t (walk_number R s v x) e;
      marks = λ R ws n r os o e q. q;
      overlap = λ R ws n r os x l y t e. subst Numbered (same_err (overlap_at u n) t e) (inr (inl refl));
      cleared = λ R ws n r os c o x q. q;
      stuck = λ R ws n r os v x t e. placed_number 0 r.first n v t (walk_number R (addresses_of h r) v x) e;
    })

untouched : {A : Type 0} (h : Shape) (img : List ℕ) (f : List ℕ → Outcome A) → ((ws : List ℕ) (t : Told) → (f ws).answer ≡ Err t → Numbered t)
    → Untouched img (on_image h img f)
untouched h img f number t e n1 n3 n5 =
    elim (cases_Bool (is_image h img)) [
      | inl own ↦ absurd (never (number (bitmap_of h img) t (rw (cond-true _ (in_image h img (f (bitmap_of h img))) (outcome (Err wrong_image) img []) own) at e)))
      | inr own ↦ rw (cond-false _ (in_image h img (f (bitmap_of h img))) (outcome (Err wrong_image) img []) own) (refl, refl)
    ]
  where
    never : Numbered t → ⊥
    never (inl x) = n1 x
    never (inr (inl x)) = n3 x
    never (inr (inr x)) = n5 x

claim_number : (h : Shape) (ws : List ℕ) (rs : List Run) (t : Told) → (claim_first h ws rs).answer ≡ Err t → Numbered t
claim_number h ws [] t e = ok_err None t e
claim_number h ws (r ∷ rs) t e = ok_err (Some (addresses_of h r)) t e

pub refusals_told : RefusalsLaw
refusals_told h img R s u = record {
  registering = untouched h img (register_in h R s u) (λ ws t. plan_number h u (parts_of h s) R ws 0 t);
  accepting = untouched h img (accept_in h R s) (λ ws t. plan_number h 0 (map clearing (runs_over h ws s)) R ws 0 t);
  claiming = untouched h img (claim_in h s) (λ ws t. claim_number h ws (runs_over h ws s) t);
  settling = untouched h img (settle_in R s) (λ ws t. walk_number R s t);
  restoring = untouched h img (restore_in h s) (λ ws t e. ok_err tt t e);
}

pub wrong_told : WrongLaw
wrong_told h img R s u wrong = record {
  registering = cond-false _ _ _ wrong;
  accepting = cond-false _ _ _ wrong;
  claiming = cond-false _ _ _ wrong;
  settling = cond-false _ _ _ wrong;
  restoring = cond-false _ _ _ wrong;
}
