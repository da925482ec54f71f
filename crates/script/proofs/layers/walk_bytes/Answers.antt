use Rattle.std.proofs.Common.{ap, ◌∙◌}
use Rattle.accept_memory.specs.Walks.{walk_answer}
use Rattle.script.proofs.Stacks.{Stack, state_of, made, told_as}
use Rattle.script.proofs.layers.walk_bytes.Goals as goal

-- the walk's answer over the layers as they are made
pub returns : goal.returns
returns c =
    let is = c.new-host.ensures.below ∙ made _ _ _ _ _ _ _ _ c.new-layers.ensures.cap c.new.ensures.retry c.new-inject.ensures c.new-map.ensures.map in
    let answers = λ (k : Stack). walk_answer (state_of k).replies c.args.span.start c.args.span.end in
    told_as _ _ _ (c.accept_memory-answer.ensures.answer ∙ ap answers is) c.new-walked.ensures.answer
