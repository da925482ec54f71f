use Rattle.std.proofs.Common.{◌≡◌, ◌-◌, ◌^◌, drop}
use Rattle.efi_table.specs.Layouts.{covering}
use Rattle.efi_table.proofs.layout.covering_range.Given as goal

-- what is left covers, over what is behind, as much as the whole list
abbrev pub invariant-loop-range : goal.invariant-loop-range
invariant-loop-range l = covering l.covered.start l.covered.end (drop l.range-index l.ranges) ≡ covering (2 ^ 64 - 1) 0 l.ranges
