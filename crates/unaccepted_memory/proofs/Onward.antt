-- A history can always go on.
use Rattle.std.proofs.Common.{◌≡◌, ℕ, true, List, [], ◌∷◌, Err, Result, refl, subst, inl, inr, arith}
use mathlib.Core.List.Memᴰ
use Rattle.fault.specs.Refusals.{Told}
use Rattle.host.specs.Replies.{since, after}
use Rattle.bitmap.specs.Marks.{marked}
use Rattle.bitmap.proofs.MarkLaws.{marked_lt}
use Rattle.efi_table.specs.declared.layout.Range.{Range}
use Rattle.efi_table.specs.Shapes.{Shape}
use Rattle.efi_table.specs.Images.{is_image}
use Rattle.unaccepted_memory.specs.Runs.{Run, runs_in, AreRuns}
use Rattle.unaccepted_memory.specs.Plans.{requests_of, Outcome}
use Rattle.unaccepted_memory.specs.Calls.{bitmap_of, inner_units, register_in, register_range, accept_range, claim_next_pending_run, settle_claim, restore_pending_range}
use Rattle.unaccepted_memory.specs.History.{is_built, Moment, Call, register, accept, claim, settle, restore, Answer, counted, claimed, none, restored, refused, by_count, by_claim, by_restoring, Event, Comes, Without, top, below, Opened, Spent, Overlapped, registers, accepts, claims, settles, restores}
use Rattle.unaccepted_memory.specs.Promises.{◌∈◌, HistoryGoesOn}
use Rattle.unaccepted_memory.proofs.PlanLaws.{cases_runs}
use Rattle.unaccepted_memory.proofs.ImageLaws.{on_own}
use Rattle.unaccepted_memory.proofs.RunLaws.{runs_told}
use Rattle.unaccepted_memory.proofs.RegisterLaws.{register_told, no_run_here}
use Rattle.unaccepted_memory.proofs.Answered.{by_err}

-- the moment after an outcome, with its open claims
abbrev afterwards : {A : Type 0} → Moment → Outcome A → List Range → Moment
afterwards m o cs = record {
  phase = m.phase;
  image = o.words;
  pages = after m.replies (requests_of o.walks) m.pages;
  replies = since (requests_of o.walks) m.replies;
  claims = cs;
}

abbrev event : {A : Type 0} → Call → (Result A Told → Answer) → Outcome A → Event
event c by o = record { call = c; answer = by o.answer; walks = o.walks }

comes : {A : Type 0} (m : Moment) (c : Call) (by : Result A Told → Answer) (o : Outcome A) (cs : List Range) → Comes m (event c by o) (afterwards m o cs) by o
comes m c by o cs = record { answer = refl; walks = refl; image = refl; replies = refl; pages = refl; phase = refl }

-- an open claim can be taken out
taken_out : (c : Range) (cs : List Range) → c ∈ cs → (others : List Range) × Without c cs others
taken_out c [] i = elim i [ ]
taken_out c (d ∷ cs) (Memᴰ.head e) = (cs, subst (λ (x : Range). Without c (x ∷ cs) cs) e top)
taken_out c (d ∷ cs) (Memᴰ.tail i) = let r = taken_out c cs i in (d ∷ r.0, below r.1)

opened : (x : Answer) (cs : List Range) → (ds : List Range) × Opened x cs ds
opened (counted n) cs = (cs, refl)
opened (claimed c) cs = (c ∷ cs, top)
opened none cs = (cs, refl)
opened restored cs = (cs, refl)
opened (refused t) cs = (cs, refl)

spent : (x : Answer) (c : Range) (cs : List Range) → (ds : List Range) × Spent x c cs ds
spent (counted n) c cs = (cs, refl)
spent (claimed d) c cs = (cs, refl)
spent none c cs = (cs, refl)
spent restored c cs = (cs, refl)
spent (refused t) c cs = (c ∷ cs, top)

-- the unit that an overlap may name
module _ (h : Shape) (m : Moment) (own : is_image h m.image ≡ true) (s : Range) where
  abbrev ws : List ℕ
  ws = bitmap_of h m.image

  abbrev inner : Run
  inner = inner_units h s

  abbrev Names : ℕ → Type 0
  Names u = (t : Told) → by_count (register_range h m.image m.replies s u).answer ≡ refused t → t.refusal ≡ 3 → Overlapped h m.image s u

  named : (u : ℕ) × Names u
  named =
      elim (cases_runs (runs_in (marked ws) inner.first inner.behind)) [
        | inl e ↦ (
          0,
          λ t q k.
              let o = register_range h m.image m.replies s 0 in
              let q' = subst (λ (y : Outcome ℕ). y.answer ≡ Err t) (on_own h m.image (register_in h m.replies s 0) own) (by_err o.answer t q) in
              let some = ((register_told h m.replies s 0 ws).overlap t q' k).2 in
              absurd (omega (arith, some.here, no_run_here (marked ws) inner.first inner.behind (marked_lt ws) e some.unit some.from some.to)),
        )
        | inr e ↦
            let told : AreRuns (marked ws) inner.first inner.behind (e.0 ∷ e.1) = rw e.2 at (runs_told (marked ws) inner.first inner.behind) in
            let one = told.each.0 in
            (e.0.first, λ t q k. record { mark = one.full e.0.first (omega arith) one.some; from = one.from; to = omega (arith, one.some, one.to) })
      ]

pub history_goes_on : HistoryGoesOn
history_goes_on h m own =
    record {
      registering = λ p s.
          let u = named h m own s in
          let o = register_range h m.image m.replies s u.0 in (
            event (register s) by_count o,
            afterwards m o m.claims,
            refl,
            registers (record { range = s; unit = u.0; phase = p; call = refl; comes = comes m (register s) by_count o m.claims; overlap = u.1; claims = refl }),
          );
      building = λ p. (
        record { phase = is_built; image = m.image; pages = m.pages; replies = m.replies; claims = m.claims },
        record { before = p; after = refl; image = refl; pages = refl; replies = refl; claims = refl },
      );
      accepting = λ p w.
          let o = accept_range h m.image m.replies w in (
            event (accept w) by_count o,
            afterwards m o m.claims,
            refl,
            accepts (record { window = w; phase = p; call = refl; comes = comes m (accept w) by_count o m.claims; claims = refl }),
          );
      claiming = λ p w.
          let o = claim_next_pending_run h m.image w in
          let c = opened (by_claim o.answer) m.claims in (
            event (claim w) by_claim o,
            afterwards m o c.0,
            refl,
            claims (record { window = w; phase = p; call = refl; comes = comes m (claim w) by_claim o c.0; claims = c.1 }),
          );
      settling = λ p c i.
          let o = settle_claim h m.image m.replies c in
          let out = taken_out c m.claims i in
          let rest = spent (by_count o.answer) c out.0 in (
            event (settle c) by_count o,
            afterwards m o rest.0,
            refl,
            settles (record { handed = c; others = out.0; phase = p; call = refl; comes = comes m (settle c) by_count o rest.0; in_hand = out.1; claims = rest.1 }),
          );
      restoring = λ p c i.
          let o = restore_pending_range h m.image c in
          let out = taken_out c m.claims i in
          let rest = spent (by_restoring o.answer) c out.0 in (
            event (restore c) by_restoring o,
            afterwards m o rest.0,
            refl,
            restores (record { handed = c; others = out.0; phase = p; call = refl; comes = comes m (restore c) by_restoring o rest.0; in_hand = out.1; claims = rest.1 }),
          );
    }
