use Rattle.std.proofs.Common.{rules}
use Rattle.efi_table.proofs.Overlaps.{overlap_is}
use Rattle.efi_table.proofs.header.Header.overlapping_bit_range.Goals as goal

pub returns-then-is_empty-clause-touched : goal.returns-then-is_empty-clause-touched
returns-then-is_empty-clause-touched c = overlap_is _ _ _ c.coverage_range-coverage.ensures.header.positive _ (search rules)

pub returns-clause-touched : goal.returns-clause-touched
returns-clause-touched c = overlap_is _ _ _ c.coverage_range-coverage.ensures.header.positive _ (search rules)
