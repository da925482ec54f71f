use Rattle.efi_table.proofs.Powers.{power_is}
use Rattle.efi_table.proofs.header.Header.for_coverage.Goals as goal

pub new-requires-clause-power : goal.new-requires-clause-power
new-requires-clause-power c = power_is 21
