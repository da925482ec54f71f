use Rattle.std.proofs.Common.{[], ◌∷◌, refl, ◌∙◌}
use Rattle.std.proofs.lemmas.Bool.{lt-ltb, le-ltb}
use Rattle.tdcall.specs.declared.TdCallError.TheVariants.{TdxPageSizeMismatch}
use Rattle.tdcall.specs.Statuses.{status_of}
use Rattle.host.specs.Pages.{accepting}
use Rattle.host.proofs.Layers.{layer_answers, layer_receives}
use Rattle.host_models.specs.Cap.{capping}
use Rattle.host_models.proofs.Cap.{cap_lawful}
use Rattle.host_models.proofs.Unless.{own_reply, own_state, passed_reply, passed_state}
use Rattle.hosts.proofs.cap.CapHost.accept.Goals as goal

pub returns-then-block-self : goal.returns-then-block-self
returns-then-block-self g c =
    let k = c.args.self.now.level in
    let h = g.L.Host.state c.args.self.now.below in
    let q = accepting c.args.block.level c.args.block.address in
    let above = lt-ltb k c.args.block.level c.if-block-self.true in
    let w = status_of TdxPageSizeMismatch in
    record {
      answer = layer_answers capping cap_lawful k (k ∷ []) h q _ (c.status.ensures ∙ own_reply w _ q h above);
      state = layer_receives capping cap_lawful k k (k ∷ []) h h q refl (own_state w _ q h above);
    }

pub returns : goal.returns
returns g c =
    let k = c.args.self.now.level in
    let h = g.L.Host.state c.args.self.now.below in
    let q = accepting c.args.block.level c.args.block.address in
    let within = le-ltb k c.args.block.level c.if-block-self.false in
    let w = status_of TdxPageSizeMismatch in
    record {
      answer = layer_answers capping cap_lawful k (k ∷ []) h q _ (c.accept.ensures.answer ∙ passed_reply w _ q h within);
      state = layer_receives capping cap_lawful k k (k ∷ []) h _ q refl (c.accept.ensures.state ∙ passed_state w _ q h within);
    }
