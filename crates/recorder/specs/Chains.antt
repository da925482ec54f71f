-- When a request goes on from the one before it.
use Rattle.std.specs.Prelude.{ℕ, ◌-◌, Bool, if◌then◌else◌, ◌&&◌, ◌==◌, nat_le, nat_lt}
use Rattle.recorder.specs.declared.Exchange.{Exchange}
use Rattle.host.specs.Pages.{size}

-- the blocks of a level, up to level 2
abbrev pub level_bytes : ℕ → ℕ
level_bytes l = if nat_lt l 3 then size l else 0

abbrev pub goes_on : Exchange → Exchange → Bool
goes_on q p =
    q.block.level == p.block.level && (q.status == p.status
    && (nat_le p.block.address q.block.address && q.block.address - p.block.address == level_bytes p.block.level))
