use Rattle.std.proofs.Common.{◌≡◌, ℕ, ◌+◌, ◌<◌, ◌≤◌, List, length, get_or, drop, sym, ap, ◌∙◌, arith}
use Rattle.std.proofs.lemmas.List.{at_drop_more, at_drop_all}
use Rattle.accept_memory.specs.Promises.{stepped_end}
use Rattle.accept_memory.specs.Walks.{View, replied}
use Rattle.accept_memory.proofs.walk.Walk.replay.Goals as goal

-- what is left after one more reply
more : (w : View) (rs : List ℕ) (i : ℕ) → i < length rs → stepped_end (replied w (get_or rs i 0)) (drop (i + 1) rs) ≡ stepped_end w (drop i rs)
unfolding stepped_end
more w rs i h = sym (at_drop_more (stepped_end w) rs i 0 h)

none : (w : View) (rs : List ℕ) (i : ℕ) → length rs ≤ i → w ≡ stepped_end w (drop i rs)
unfolding stepped_end
none w rs i h = sym (at_drop_all (stepped_end w) rs i h)

pub loop-status-preserved : goal.loop-status-preserved
loop-status-preserved c =
    let rs = c.args.statuses.now in
    let i = c.loop-status.status-index in
    let replied_is : c.reply.new.self ≡ replied c.loop-status.self (get_or rs i 0) = c.reply.ensures in
    ap (λ (w : View). stepped_end w (drop (i + 1) rs)) replied_is
    ∙ more c.loop-status.self rs i (omega arith) ∙ c.loop-status.invariant

pub returns : goal.returns
returns c = none c.loop-status.self c.args.statuses.now c.loop-status.status-index (omega arith) ∙ c.loop-status.invariant
