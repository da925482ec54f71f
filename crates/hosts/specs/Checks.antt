-- The numbers that a host may be made from.
use Rattle.std.specs.Prelude.{ℕ, ◌+◌, ◌*◌, ◌%◌, ◌^◌, if◌then◌else◌, not, ◌||◌, Ok, Err, Result, ◌==◌, nat_le, nat_lt}
use Rattle.fault.specs.declared.AcceptError.{AcceptError}
use Rattle.fault.specs.declared.AcceptError.TheVariants.{BadHost}

-- where a map lies: its first address, and how many pages it has
pub record Extent : Type 0 where
  pub base : ℕ
  pub count : ℕ

-- a map's base is a multiple of 4096 and its end is below 2 ^ 64
abbrev pub checked_shape : ℕ → ℕ → Result Extent AcceptError
checked_shape base count = if not (base % 4096 == 0) || nat_le (2 ^ 64) (base + 4096 * count) then Err BadHost else Ok (record { base = base; count = count })

-- a number that is at most a bound: 2 for the level of a cap, 7 for the repeats of a retry
abbrev pub checked_up_to : ℕ → ℕ → Result ℕ AcceptError
checked_up_to bound n = if nat_lt bound n then Err BadHost else Ok n
