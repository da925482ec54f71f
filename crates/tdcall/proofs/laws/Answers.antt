use Rattle.tdcall.proofs.Names.{all_named}
use Rattle.tdcall.proofs.laws.Goals as goal

pub returns : goal.returns
returns c = all_named
