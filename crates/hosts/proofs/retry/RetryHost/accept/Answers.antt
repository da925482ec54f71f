use Rattle.std.proofs.Common.{◌≡◌, ℕ, ◌-◌, ◌<◌, true, false, [], ◌∷◌, sym, refl, ap, ◌∙◌, inl, inr, arith}
use Rattle.host.specs.Pages.{Request, accepting}
use Rattle.host.specs.States.{HostState, received, received_all}
use Rattle.host.proofs.Layers.{layer_answers, layer_receives}
use Rattle.host_models.specs.Retry.{is_busy, retry_reply, retry_passes, retrying}
use Rattle.host_models.proofs.Retry.{retry_lawful, more_left, none_left}
use Rattle.hosts.proofs.retry.RetryHost.accept.Goals as goal

-- a busy reply leaves one repeat less
one_more : (n m : ℕ) (h : HostState) (q : Request) → m ≡ n - 1 → 0 < n → is_busy (h.replies [] q) ≡ true → (h' : HostState) → h' ≡ received q h
    → (retry_reply m h'.replies q ≡ retry_reply n h.replies q) × (received_all (retry_passes m h'.replies q) h' ≡ received_all (retry_passes n h.replies q) h)
one_more n m h q less some busy h' e = rw less (more_left n h q some busy h' e)

pub returns-then-not-is_busy : goal.returns-then-not-is_busy
returns-then-not-is_busy g c =
    let n = c.args.self.now.count in
    let h = g.L.Host.state c.args.self.now.below in
    let b = g.L.Host.state c.loop.self.below in
    let q = accepting c.args.block.level c.args.block.address in
    let t = c.accept-reply.ensures in
    let inv = c.loop.invariant in
    let idle : is_busy (b.replies [] q) ≡ false = ap is_busy (sym t.answer) ∙ sym c.is_busy.ensures ∙ c.if-not-is_busy.true in
    let last = none_left _ b q (inr idle) in
    record {
      answer = layer_answers retrying retry_lawful n (n ∷ []) h q _ (t.answer ∙ last.0 ∙ inv.1);
      state = rw inv.0 (layer_receives retrying retry_lawful n n (n ∷ []) h _ q refl (t.state ∙ last.1 ∙ inv.2));
    }

pub loop-preserved : goal.loop-preserved
loop-preserved g c =
    let b = g.L.Host.state c.loop.self.below in
    let q = accepting c.args.block.level c.args.block.address in
    let t = c.accept-reply.ensures in
    let inv = c.loop.invariant in
    let busy = ap is_busy (sym t.answer) ∙ sym c.is_busy.ensures ∙ c.if-not-is_busy.false in
    let more = one_more _ _ b q (omega arith) (omega arith) busy _ t.state in
    (inv.0, more.0 ∙ inv.1, more.1 ∙ inv.2)

pub returns-else-not-is_busy : goal.returns-else-not-is_busy
returns-else-not-is_busy g c =
    let n = c.args.self.now.count in
    let h = g.L.Host.state c.args.self.now.below in
    let b = g.L.Host.state c.loop.self.below in
    let q = accepting c.args.block.level c.args.block.address in
    let t = c.accept-reply.ensures in
    let inv = c.loop.invariant in
    let last = none_left _ b q (inl (omega arith)) in
    record {
      answer = layer_answers retrying retry_lawful n (n ∷ []) h q _ (t.answer ∙ last.0 ∙ inv.1);
      state = rw inv.0 (layer_receives retrying retry_lawful n n (n ∷ []) h _ q refl (t.state ∙ last.1 ∙ inv.2));
    }
