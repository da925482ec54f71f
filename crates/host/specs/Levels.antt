-- The numbers of the levels.
use Rattle.std.specs.Prelude.{◌≡◌, ℕ, ◌<◌, List, ◌++◌, Result, MatchResult, codes}
use Rattle.std.specs.Fmt.{decimal}
use Rattle.host.specs.declared.page_level.PageLevel.{PageLevel}
use Rattle.host.specs.declared.page_level.PageLevel.TheVariants.{L1_4K, L2_2M, L3_1G}
use Rattle.host.specs.declared.page_level.NoPageLevel.{NoPageLevel}

abbrev pub level_number : PageLevel → ℕ
level_number L1_4K = 0
level_number L2_2M = 1
level_number L3_1G = 2

-- the size of a level's pages, as it is printed
abbrev pub size_name : PageLevel → List ℕ
size_name L1_4K = codes "4 KiB"
size_name L2_2M = codes "2 MiB"
size_name L3_1G = codes "1 GiB"

-- what is printed of a number that is that of no level
abbrev pub no_level_text : ℕ → List ℕ
no_level_text n = codes "no level has the number " ++ decimal n

-- a number tells the level that has it; one above 2 is given back
abbrev pub Numbers : ℕ → Result PageLevel NoPageLevel → Type 0
Numbers n r = MatchResult r (λ level. level_number level ≡ n) (λ e. (e.0 ≡ n) × (2 < n))
