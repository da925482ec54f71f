-- What settling a claim does.
use Rattle.std.proofs.Common.{◌≡◌, ℕ, ◌⊎◌, List, [], ◌∷◌, length, Ok, Err, Result, sym, refl, ap, ◌∙◌, subst, inl, inr, arith}
use mathlib.Core.List.Memᴰ
use Rattle.std.proofs.lemmas.List.{append-nil}
use Rattle.fault.specs.Refusals.{Told}
use Rattle.host.specs.Replies.{after}
use Rattle.accept_memory.specs.Promises.{Promises}
use Rattle.accept_memory.proofs.Kept.{promises}
use Rattle.efi_table.specs.declared.layout.Range.{Range}
use Rattle.efi_table.specs.Shapes.{Shape}
use Rattle.unaccepted_memory.specs.Plans.{Walk, walk_over, Outcome}
use Rattle.unaccepted_memory.specs.Calls.{bitmap_of, settle_in}
use Rattle.unaccepted_memory.specs.History.{Moment, settle, Answer, by_count, Event, Without, Spent, Settles}
use Rattle.unaccepted_memory.specs.Promises.{◌∈◌, Holds, Claimed}
use Rattle.unaccepted_memory.proofs.PlanLaws.{Numbered}
use Rattle.unaccepted_memory.proofs.ClaimLaws.{without_self, without_rest, without_cases, put_back}
use Rattle.unaccepted_memory.proofs.StepLaws.{Table, Good, Reached, Stepped, Ends, Effect, came, step}
use Rattle.unaccepted_memory.proofs.Answered.{not_registering, by_err, count_by_answer}

module _ (h : Shape) (table : Table h) (m : Moment) (e : Event) (n : Moment) (good : Good h m) (d : Settles h m e n) where
  abbrev walk : Walk
  walk = walk_over m.replies d.handed

  abbrev out : List ℕ → Outcome ℕ
  out = settle_in m.replies d.handed

  kept : Promises d.handed.start d.handed.end m.replies m.pages (after m.replies walk.requests m.pages) walk.answer
  kept = promises d.handed.start d.handed.end m.replies m.pages good.host

  -- the claims after it are among those before, and those before are accepted or still open
  settle_effect : ((c : Range) → c ∈ n.claims → c ∈ m.claims) → ((a : ℕ) → Claimed m.claims a → Ends h m n (out (bitmap_of h m.image)) a)
      → Effect h m e n by_count (out (bitmap_of h m.image))
  settle_effect fewer ends =
      record {
        long = refl;
        made = (refl, tt);
        count = count_by_answer walk.answer ∙ kept.counted ∙ ap length (sym (append-nil walk.requests));
        number = λ t q. numbered t (kept.failed t (by_err walk.answer t q));
        claims = λ c i. good.claims c (fewer c i);
        marks = λ a q. inr (inl q);
        claimed = ends;
        owed = λ a i k. not_registering e (settle d.handed) a d.call (omega arith) i;
        new_marks = λ a q. inl (inl q);
        new_claims = λ a q. inl (inr (q.0, fewer q.0 q.1, q.2));
        spans = spanned;
      }
    where
      numbered : (t : Told) → (t.refusal ≡ 1) ⊎ (t.refusal ≡ 5) → Numbered t
      numbered t (inl x) = inl x
      numbered t (inr x) = inr (inr x)

      spanned : (w : Walk) → w ∈ (walk ∷ []) → (a : ℕ) → Holds w.span a → Reached h m e a
      spanned w (Memᴰ.head q) a i = inl (inr (d.handed, without_self d.handed d.in_hand, subst (λ (v : Walk). Holds v.span a) q i))
      spanned w (Memᴰ.tail q) a i = elim q [ ]

  settled : (c : ℕ) → walk.answer ≡ Ok c → n.claims ≡ d.others → Effect h m e n by_count (out (bitmap_of h m.image))
  settled c ok rest =
      settle_effect (λ x i. without_rest d.handed d.in_hand x (rw rest at i))
      (λ a q. ends a q.0 q.2 (without_cases d.handed d.in_hand q.0 q.1))
    where
      ends : (a : ℕ) (x : Range) → Holds x a → (x ≡ d.handed) ⊎ (x ∈ d.others) → Ends h m n (out (bitmap_of h m.image)) a
      ends a x i (inl q) =
          let j : Holds d.handed a = subst (λ (y : Range). Holds y a) q i in
          inl (rw (append-nil walk.requests) ((kept.done c ok (omega arith)).2 a j.0 j.1))
      ends a x i (inr q) = inr (inr (x, rw rest q, i))

  handed_back : Without d.handed n.claims d.others → Effect h m e n by_count (out (bitmap_of h m.image))
  handed_back back =
      settle_effect (put_back d.handed back d.in_hand) (λ a q. inr (inr (q.0, put_back d.handed d.in_hand back q.0 q.1, q.2)))

  settle_by : (r : Result ℕ Told) → walk.answer ≡ r → Spent (by_count r) d.handed d.others n.claims → Effect h m e n by_count (out (bitmap_of h m.image))
  settle_by (Ok c) q rest = settled c q rest
  settle_by (Err t) q back = handed_back back

  pub settle_step : Stepped h m e n
  settle_step =
      step h m e n good by_count out d.comes
      (settle_by walk.answer refl (subst (λ (x : Answer). Spent x d.handed d.others n.claims) (came h m e n good by_count out d.comes).answer d.claims))
