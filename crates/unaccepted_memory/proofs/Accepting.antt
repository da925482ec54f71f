-- What accepting in a window does.
use Rattle.std.proofs.Common.{◌≡◌, ℕ, ◌/◌, ◌⊎◌, List, map, length, ◌∙◌, inl, inr, arith}
use Rattle.host.specs.Pages.{accepted}
use Rattle.host.specs.Replies.{after}
use Rattle.efi_table.specs.Shapes.{Shape, overlap_of}
use Rattle.unaccepted_memory.specs.Plans.{requests_of, Outcome, Order, clearing}
use Rattle.unaccepted_memory.specs.Calls.{bitmap_of, runs_over, accept_in}
use Rattle.unaccepted_memory.specs.History.{Moment, accept, by_count, Event, Accepts}
use Rattle.unaccepted_memory.specs.Promises.{Marked}
use Rattle.unaccepted_memory.proofs.PlanLaws.{Held, Performed, performed}
use Rattle.unaccepted_memory.proofs.StepLaws.{Table, Good, Reached, Stepped, Ends, Effect, step}
use Rattle.unaccepted_memory.proofs.Answered.{not_registering, by_err, count_by_answer}
use Rattle.unaccepted_memory.proofs.FullRuns.{full_runs, held_marked, below_clearing}

module _ (h : Shape) (table : Table h) (m : Moment) (e : Event) (n : Moment) (good : Good h m) (d : Accepts h m e n) where
  abbrev plan : List ℕ → Outcome ℕ
  plan = accept_in h m.replies d.window

  abbrev out : Outcome ℕ
  out = plan (bitmap_of h m.image)

  abbrev orders : List Order
  orders = map clearing (runs_over h (bitmap_of h m.image) d.window)

  did : Performed h m.replies m.pages (bitmap_of h m.image) 0 orders out
  did = performed h 0 table.unit orders m.replies (bitmap_of h m.image) 0 m.pages good.host (below_clearing _ (runs_over h (bitmap_of h m.image) d.window))

  was_marked : (a : ℕ) → Held h a orders → Marked h (bitmap_of h m.image) a
  was_marked a q = held_marked h table.unit (bitmap_of h m.image) _ a (full_runs (bitmap_of h m.image) (overlap_of h d.window.start d.window.end)) q

  ending : (a : ℕ) → (after m.replies (requests_of out.walks) m.pages (a / 4096) ≡ accepted) ⊎ Marked h out.words a → Ends h m n out a
  ending a (inl q) = inl q
  ending a (inr q) = inr (inl q)

  newly : (a : ℕ) → Marked h (bitmap_of h m.image) a ⊎ Held h a orders → Reached h m e a
  newly a (inl q) = inl (inl q)
  newly a (inr q) = inl (inl (was_marked a q))

  -- accepting makes no new mark
  pub accept_less : (a : ℕ) → Marked h out.words a → Marked h (bitmap_of h m.image) a
  accept_less a q = elim (did.new a q) [ inl i ↦ i | inr i ↦ was_marked a i ]

  pub accept_long : length out.words ≡ length (bitmap_of h m.image)
  accept_long = did.long

  accept_effect : Effect h m e n by_count out
  accept_effect = record {
    long = did.long;
    made = did.made;
    count = count_by_answer out.answer ∙ did.count ∙ omega arith;
    number = λ t q. did.number t (by_err out.answer t q);
    claims = rw d.claims good.claims;
    marks = λ a q. ending a (did.safe a q);
    claimed = λ a q. inr (inr (rw d.claims q));
    owed = λ a i k. not_registering e (accept d.window) a d.call (omega arith) i;
    new_marks = λ a q. newly a (did.new a q);
    new_claims = λ a q. inl (inr (rw d.claims at q));
    spans = λ w i a q. inl (inl (was_marked a (did.spans w i a q)));
  }

  pub accept_step : Stepped h m e n
  accept_step = step h m e n good by_count plan d.comes accept_effect
