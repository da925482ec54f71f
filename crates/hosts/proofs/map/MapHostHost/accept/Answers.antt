use Rattle.std.proofs.Common.{ap, ◌∙◌}
use Rattle.host.specs.Pages.{accepting}
use Rattle.host_models.specs.Map.{map_state}
use Rattle.host_models.proofs.Map.{map_answers, map_receives}
use Rattle.hosts.proofs.map.MapHostHost.accept.Goals as goal

pub returns : goal.returns
returns c =
    let m = c.args.self.now in
    let q = accepting c.args.block.level c.args.block.address in
    let t = c.accept_in_map.ensures in
    record {
      answer = c.encode.ensures.status ∙ t.answer ∙ map_answers m.first m.count m.pages.ghost_name m.pages.now q;
      state = ap (map_state m.first m.count m.pages.ghost_name) t.bytes ∙ map_receives m.first m.count m.pages.ghost_name m.pages.now q;
    }
