use Rattle.std.proofs.Common.{◌≡◌, true, false, [], drop, sym, ap, ◌∙◌, arith}
use Rattle.host.specs.Pages.{accepting}
use Rattle.hosts.specs.declared.inject.Inject.{Inject}
use Rattle.host.proofs.Layers.{layer_answers, layer_receives}
use Rattle.host_models.specs.Inject.{is_reply, injecting, next_word}
use Rattle.host_models.proofs.Inject.{inject_lawful, next_at, left_then, left_none}
use Rattle.host_models.proofs.Unless.{own_reply, own_state, passed_reply, passed_state}
use Rattle.hosts.proofs.inject.InjectHost.accept.Goals.{in-Some+else-is_reply, in_default}
use Rattle.hosts.proofs.inject.InjectHost.accept.Goals as goal

pub returns-then-is_reply : goal.returns-then-is_reply
returns-then-is_reply g c =
    let ws = drop c.args.self.now.used c.args.self.now.words.now in
    let h = g.L.Host.state c.args.self.now.below in
    let q = accepting c.args.block.level c.args.block.address in
    let word : c.in-Some.word.now ≡ next_word ws = c.in-Some.ensures.lookup.4 (omega arith) 0 ∙ sym (next_at c.args.self.now.words.now c.args.self.now.used) in
    let own : is_reply (next_word ws) ≡ true = ap is_reply (sym word) ∙ sym c.is_reply.ensures ∙ c.if-is_reply.true in
    record {
      answer = layer_answers injecting inject_lawful ws [] h q _ (word ∙ own_reply _ _ q h own);
      state = layer_receives injecting inject_lawful ws _ [] h h q (left_then c.args.self.now.words.now c.args.self.now.used) (own_state (next_word ws) _ q h own);
    }

pub returns : goal.returns
returns g c =
    let words = c.args.self.now.words.now in
    let used = c.args.self.now.used in
    let ws = drop used words in
    let h = g.L.Host.state c.args.self.now.below in
    let q = accepting c.args.block.level c.args.block.address in
    let idle : is_reply (next_word ws) ≡ false =
    elim c.match-get.branch [
      | in-Some+else-is_reply w ↦
          ap is_reply (next_at words used ∙ sym (w.in-Some.ensures.lookup.4 (omega arith) 0)) ∙ sym w.is_reply.ensures ∙ w.if-is_reply.false
      | in_default w ↦ ap is_reply (next_at words used ∙ sym (w.in_default.ensures.lookup.4 (omega arith) 0))
    ] in
    let below_is : c.match-get.self.below ≡ c.args.self.now.below = elim c.match-get.branch [ in-Some+else-is_reply w ↦ ap (λ (s : Inject _). s.below) w.self-is | in_default w ↦ ap (λ (s : Inject _). s.below) w.self-is ] in
    let left_is : drop c.match-get.self.used c.match-get.self.words.now ≡ drop 1 ws =
    elim c.match-get.branch [
      | in-Some+else-is_reply w ↦ ap (λ (s : Inject _). drop s.used s.words.now) w.self-is ∙ left_then words used
      | in_default w ↦ ap (λ (s : Inject _). drop s.used s.words.now) w.self-is ∙ left_none words used w.in_default.ensures.lookup.3
    ] in
    let t = c.accept.ensures in
    record {
      answer = layer_answers injecting inject_lawful ws [] h q _ (t.answer ∙ rw below_is (passed_reply (next_word ws) _ q h idle));
      state = layer_receives injecting inject_lawful ws _ [] h _ q left_is (t.state ∙ rw below_is (passed_state (next_word ws) _ q h idle));
    }
