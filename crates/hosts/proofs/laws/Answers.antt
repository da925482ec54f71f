use Rattle.host_models.proofs.Map.{map_law}
use Rattle.host_models.proofs.Cap.{cap_law}
use Rattle.host_models.proofs.Retry.{retry_law}
use Rattle.host_models.proofs.Inject.{inject_law}
use Rattle.hosts.proofs.laws.Goals as goal

pub returns : goal.returns
returns c = record { map = map_law; «cap» = cap_law; retry = retry_law; inject = inject_law }
