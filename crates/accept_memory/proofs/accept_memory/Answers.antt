use Rattle.std.proofs.Common.{◌≡◌, ℕ, ◌≤◌, [], Result, sym, ap, ◌∙◌, subst}
use Rattle.host.specs.Levels.{level_number}
use Rattle.fault.specs.Refusals.{Told, told_by}
use Rattle.host.specs.declared.Block.{Block}
use Rattle.host.specs.Pages.{Pages, Request, accepting}
use Rattle.host.specs.Replies.{Replies, after}
use Rattle.host.specs.States.{HostState, received, received_all}
use Rattle.accept_memory.specs.Promises.{Promises}
use Rattle.accept_memory.specs.Walks.{View, answer_of, begun, bound, walk_answer, walk_requests}
use Rattle.accept_memory.proofs.Places.{Placed, left, left_begun}
use Rattle.accept_memory.proofs.Outcomes.{Outcome, rest, rest_still, begun_placed}
use Rattle.accept_memory.proofs.Kept.{promises}
use Rattle.accept_memory.proofs.Turns.{Turn, turn_again, turn_placed, still_now}
use Rattle.accept_memory.proofs.accept_memory.Given as given
use Rattle.accept_memory.proofs.accept_memory.Goals as goal

kept_by : (R : Replies) (P : Pages) (s e : ℕ) (P' : Pages) (a : Result ℕ Told) → P' ≡ after R (walk_requests R s e) P → a ≡ walk_answer R s e
    → Promises s e R P (after R (walk_requests R s e) P) (walk_answer R s e) → Promises s e R P P' a
kept_by R P s e P' a pages_are told_is k = rw (pages_are, told_is) k

-- one turn, as the code makes it
turn : (g : given.Over) (c : goal.After-reply g)
    → Turn (g.H.Host.state c.loop-request.host) (g.H.Host.state c.accept-status.new.self)
    c.loop-request.walk c.reply.new.self (level_number c.in-Some.request.level) c.in-Some.request.address c.accept-status.result
turn g c =
    let t = c.accept-status.ensures in
    let h = g.H.Host.state c.loop-request.host in
    let asked_is = ap (λ (b : Block). accepting b.level b.address) c.from.ensures in
    record {
      asks = c.in-Some.ensures.asks;
      placed = c.loop-request.invariant.0;
      answer = t.answer ∙ ap (h.replies []) asked_is;
      state = t.state ∙ ap (λ (q : Request). received q h) asked_is;
      view = c.reply.ensures;
    }

pub loop-request-init : goal.loop-request-init
loop-request-init g c =
    let is = c.begin-walk.ensures in
    let s = c.args.start in
    let e = c.args.end in
    let few : View → Type 0 = λ w. left w ≤ bound s e in
    (subst Placed (sym is) (begun_placed s e), bound s e, subst few (sym is) (left_begun s e), ap (rest (bound s e) (g.H.Host.state c.args.host.now)) is)

pub loop-request-preserved : goal.loop-request-preserved
loop-request-preserved g c =
    let inv = c.loop-request.invariant in
    let again = turn_again _ _ _ _ _ _ _ (turn g c) inv.1 inv.2 in
    (turn_placed _ _ _ _ _ _ _ (turn g c), again.0, again.1, again.2 ∙ inv.3)

pub returns : goal.returns
returns g c =
    let inv = c.loop-request.invariant in
    let w = c.loop-request.walk in
    let h = g.H.Host.state c.args.host.now in
    let last = g.H.Host.state c.loop-request.host in
    let s = c.args.start in
    let e = c.args.end in
    let whole : record { view = w; host = last } ≡ rest (bound s e) h (begun s e) = rest_still inv.1 last w (still_now w c.in_default.ensures.asks) ∙ inv.3 in
    let told_is : told_by c.outcome.result ≡ walk_answer h.replies s e = c.outcome.ensures ∙ ap (λ (o : Outcome). answer_of o.view) whole in
    let state_is : last ≡ received_all (walk_requests h.replies s e) h = ap (λ (o : Outcome). o.host) whole in
    record {
      answer = told_is;
      state = state_is;
      promises = kept_by h.replies h.pages s e _ _ (ap (λ (k : HostState). k.pages) state_is) told_is (promises s e h.replies h.pages (g.H.Host.sound c.args.host.now));
    }
