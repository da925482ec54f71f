use Rattle.std.proofs.Common.{◌≡◌, ◌-◌}
use Rattle.host.specs.Pages.{accepting}
use Rattle.host.specs.States.{received_all}
use Rattle.host_models.specs.Retry.{retry_reply, retry_passes}
use Rattle.hosts.proofs.retry.RetryHost.accept.Given as goal

-- with the repeats left, from here, it comes to what it comes to from the start
abbrev pub invariant-loop : goal.invariant-loop
invariant-loop g l =
    let h = g.L.Host.state l.self.below in
    let k = g.L.Host.state l.initial.self.below in
    let n = l.end - l.counter in
    let q = accepting l.block.level l.block.address in
    (l.self.count ≡ l.initial.self.count)
    × (retry_reply n h.replies q ≡ retry_reply l.initial.self.count k.replies q)
    × (received_all (retry_passes n h.replies q) h ≡ received_all (retry_passes l.initial.self.count k.replies q) k)
