use Rattle.std.proofs.Common.{◌+◌, length, ap, ◌∙◌, rules}
use Rattle.std.proofs.lemmas.Fn.{always_returns_same}
use Rattle.recorder.proofs.RunEnds.{run_end_of}
use Rattle.recorder.proofs.runs.run_end.Goals as goal

pub returns-in-Some-next : goal.returns-in-Some-next
returns-in-Some-next g c =
    let steps = c.in-Some-next.ensures.steps in
    let part = c.in-Some.ensures.lookup.0 in
    let same = c.chunk_by.ensures.rest in
    let alike = steps.2 (λ x y. g.T.Chain.chained y x) (always_returns_same _ _ _ (λ a r f' k. (search rules, search rules))) in
    run_end_of _ _ _ _ _ _ part.0 (same ∙ part.2) (ap (λ (l : _). length l + c.args.from) same ∙ part.3) steps.0 steps.1 alike.1
