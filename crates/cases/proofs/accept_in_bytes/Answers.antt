use Rattle.std.proofs.Common.{sym, ap, ◌∙◌, rules}
use Rattle.hosts.specs.declared.map.MapHost.{MapHost}
use Rattle.host.specs.States.{HostState}
use Rattle.accept_memory.specs.Walks.{walk_answer, walk_requests}
use Rattle.cases.proofs.Stack.{state_of, bytes_after, moved, same_name}
use Rattle.cases.proofs.accept_in_bytes.Goals as goal

pub returns : goal.returns
returns c =
    let s = c.args.start in
    let e = c.args.end in
    let h = c.new-host.result in
    let last = c.accept_memory.new.host in
    let t = c.accept_memory.ensures in
    let made = c.new-host.ensures.map in
    let bytes_are = bytes_after h last (walk_requests (state_of h).replies s e) t.state ∙ ap (λ (k : MapHost). (state_of k).lent (walk_requests (state_of k).replies s e)) made in
    let names = sym (ap (λ (k : MapHost). k.pages.ghost_name) made) ∙ same_name _ _ _ _ _ _ (ap (λ (k : HostState). k.fixed) t.state) in
    record { answer = t.answer ∙ ap (λ (k : MapHost). walk_answer (state_of k).replies s e) made; bytes = search (rules, moved) }
