-- What the bytes of a map say, and what stands in the way of accepting the pages of a block.
use Rattle.std.specs.Prelude.{ℕ, zero, suc, ◌+◌, max, if◌then◌else◌, List, ◌++◌, codes, ◌==◌, nat_lt, slice_index, Some, None, Option}
use Rattle.tdcall.specs.declared.TdCallError.{TdCallError}
use Rattle.tdcall.specs.declared.TdCallError.TheVariants.{TdxOperandAddrRangeError, TdxPageAlreadyAccepted, TdxPageSizeMismatch}
use Rattle.host.specs.declared.page_level.PageLevel.TheVariants.{L1_4K, L2_2M, L3_1G}
use Rattle.host.specs.Levels.{level_number, size_name}
use Rattle.hosts.specs.declared.map.MapPage.{MapPage}
use Rattle.hosts.specs.declared.map.MapPage.TheVariants as page
use Rattle.hosts.specs.declared.map.Obstacle.{Obstacle}
use Rattle.hosts.specs.declared.map.Obstacle.TheVariants as obstacle

-- what a byte says of its page
abbrev pub map_page : ℕ → MapPage
map_page b =
    if b == 1 then page.Pending L1_4K else if b == 2 then page.Pending L2_2M else if b == 3 then page.Pending L3_1G
    else if b == 4 then page.Accepted else page.Absent

-- the byte that says a page
abbrev pub page_byte : MapPage → ℕ
page_byte page.Absent = 0
page_byte page.Accepted = 4
page_byte (page.Pending m) = level_number m + 1

-- a page as it is printed
abbrev pub page_name : MapPage → List ℕ
page_name page.Absent = codes "absent"
page_name page.Accepted = codes "accepted"
page_name (page.Pending m) = codes "pending, mapped at " ++ size_name m

-- what stands in the way of accepting a page at level l
abbrev pub obstacle_to : ℕ → MapPage → Option Obstacle
obstacle_to l page.Absent = Some obstacle.Absent
obstacle_to l page.Accepted = Some obstacle.Accepted
obstacle_to l (page.Pending m) = if nat_lt (level_number m) l then Some obstacle.MappedSmaller else None

-- the order of obstacles: 0 is none
abbrev pub rank : Option Obstacle → ℕ
rank None = 0
rank (Some obstacle.MappedSmaller) = 1
rank (Some obstacle.Accepted) = 2
rank (Some obstacle.Absent) = 3

-- the weight of what stands in the way of the page of a byte at level l
abbrev pub weight : ℕ → ℕ → ℕ
weight l b = rank (obstacle_to l (map_page b))

-- the highest of the n bytes from i on
unfoldable pub highest : ℕ → List ℕ → ℕ → ℕ → ℕ
highest l L i zero = 0
highest l L i (suc n) = max (weight l (slice_index L i)) (highest l L (i + 1) n)

-- the error that tells an obstacle
abbrev pub error_for : Obstacle → TdCallError
error_for obstacle.MappedSmaller = TdxPageSizeMismatch
error_for obstacle.Accepted = TdxPageAlreadyAccepted
error_for obstacle.Absent = TdxOperandAddrRangeError
