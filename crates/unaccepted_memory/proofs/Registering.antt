-- What registering a range does to the bitmap, the pages and the claims.
use Rattle.std.proofs.Common.{◌≡◌, ℕ, ◌/◌, ◌⊎◌, List, sym, ◌∙◌, subst, inl, inr, arith}
use Rattle.host.specs.Pages.{accepted}
use Rattle.host.specs.Replies.{after}
use Rattle.efi_table.specs.declared.layout.Range.{Range}
use Rattle.efi_table.specs.Shapes.{Shape}
use Rattle.unaccepted_memory.specs.Plans.{requests_of, Outcome}
use Rattle.unaccepted_memory.specs.Calls.{bitmap_of, parts_of, register_in}
use Rattle.unaccepted_memory.specs.History.{Moment, by_count, Event, Registers}
use Rattle.unaccepted_memory.specs.Promises.{Holds, Marked}
use Rattle.unaccepted_memory.proofs.PlanLaws.{Held, Performed, performed}
use Rattle.unaccepted_memory.proofs.PartLaws.{parts_make, parts_below}
use Rattle.unaccepted_memory.proofs.ImageLaws.{bitmap_units}
use Rattle.unaccepted_memory.proofs.StepLaws.{Table, Good, Reached, Stepped, Ends, Effect, came, step}
use Rattle.unaccepted_memory.proofs.Answered.{same_range, by_ok, by_err, count_by_answer}

module _ (h : Shape) (table : Table h) (m : Moment) (e : Event) (n : Moment) (good : Good h m) (d : Registers h m e n) where
  abbrev words : List ℕ
  words = bitmap_of h m.image

  abbrev plan : List ℕ → Outcome ℕ
  plan = register_in h m.replies d.range d.unit

  did : Performed h m.replies m.pages words 0 (parts_of h d.range) (plan words)
  did = performed h d.unit table.unit (parts_of h d.range) m.replies words 0 m.pages good.host
      (rw (bitmap_units h m.image good.image table.words) (parts_below h d.range table.unit (good.even d.phase)))

  makes : (a : ℕ) → (Held h a (parts_of h d.range) → Holds d.range a) × (Holds d.range a → Held h a (parts_of h d.range))
  makes = parts_make h d.range table.unit (good.even d.phase)

  ending : (a : ℕ) → (after m.replies (requests_of (plan words).walks) m.pages (a / 4096) ≡ accepted) ⊎ Marked h (plan words).words a → Ends h m n (plan words) a
  ending a (inl q) = inl q
  ending a (inr q) = inr (inl q)

  newly : (a : ℕ) → Marked h words a ⊎ Held h a (parts_of h d.range) → Reached h m e a
  newly a (inl q) = inl (inl q)
  newly a (inr q) = inr (d.range, d.call, (makes a).0 q)

  register_effect : Effect h m e n by_count (plan words)
  register_effect = record {
    long = did.long;
    made = did.made;
    count = count_by_answer (plan words).answer ∙ did.count ∙ omega arith;
    number = λ t q. did.number t (by_err (plan words).answer t q);
    claims = rw d.claims good.claims;
    marks = λ a q. ending a (did.safe a q);
    claimed = λ a q. inr (inr (rw d.claims q));
    owed = λ a i k.
        ending a (did.done k.0 (by_ok (plan words).answer k.0 (sym (came h m e n good by_count plan d.comes).answer ∙ k.1)) a
        ((makes a).1 (subst (λ (s : Range). Holds s a) (same_range e.call i.0 d.range i.1 d.call) i.2)));
    new_marks = λ a q. newly a (did.new a q);
    new_claims = λ a q. inl (inr (rw d.claims at q));
    spans = λ w i a q. inr (d.range, d.call, (makes a).0 (did.spans w i a q));
  }

  pub register_step : Stepped h m e n
  register_step = step h m e n good by_count plan d.comes register_effect
