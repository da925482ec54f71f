-- Requests in runs: each asks for the block behind that of the one before.
use Rattle.std.specs.Prelude.{ℕ, zero, suc, ◌+◌, ◌-◌, nat_le, ◌==◌, ◌&&◌, Bool, List, [], ◌∷◌, ◌++◌, codes, if◌then◌else◌, map}
use Rattle.std.specs.Fmt.{decimal}
use Rattle.std.specs.List.{flat_map}
use Rattle.host.specs.declared.Block.{Block}
use Rattle.recorder.specs.Chains.{level_bytes}
use Rattle.recorder.specs.declared.Exchange.{Exchange}
use Rattle.script.specs.declared.requests.RequestRun.{RequestRun}
use Rattle.script.specs.Numbers.{hexadecimal}

-- the block behind
abbrev pub block_behind : Block → Block
block_behind b = record { level = b.level; address = b.address + level_bytes b.level }

-- does a request ask for the block behind that of the one before?
abbrev pub goes_on : Block → Block → Bool
goes_on before block = before.level == block.level
    && (nat_le before.address block.address && block.address - before.address == level_bytes before.level)

-- n blocks, from one on
abbrev pub blocks_from : ℕ → Block → List Block
blocks_from zero b = []
blocks_from (suc n) b = b ∷ blocks_from n (block_behind b)

-- the blocks that a run of requests asks for
abbrev pub blocks_of : RequestRun → List Block
blocks_of r = blocks_from r.times r.first

-- the blocks that runs ask for, one run after the other
abbrev pub asked : List RequestRun → List Block
asked runs = flat_map blocks_of runs

-- the blocks that were asked for
abbrev pub blocks_in : List Exchange → List Block
blocks_in exchanges = map (λ e. e.block) exchanges

-- a run as it is printed
abbrev pub text_of : RequestRun → List ℕ
text_of r =
    decimal r.first.level ++ (codes "@" ++ (hexadecimal r.first.address ++ (if r.times == 1 then [] else (codes "*" ++ decimal r.times))))
