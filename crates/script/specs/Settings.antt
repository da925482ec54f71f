-- What a line that sets something up leaves of a case.
use Rattle.std.specs.Prelude.{◌≡◌, ℕ, List, Option, Some, None}
use Rattle.script.specs.declared.case.Case.{Case}
use Rattle.script.specs.declared.case.Source.{Source}
use Rattle.script.specs.declared.case.Source.TheVariants as source
use Rattle.script.specs.declared.line.Setting.{Setting}
use Rattle.script.specs.declared.line.Setting.TheVariants as setting

-- the bytes of the map, if there is one
abbrev pub pages_in : Option Source → Option (List ℕ)
pages_in (Some (source.Host layers)) = Some layers.pages.items
pages_in other = None

-- all but what answers requests stays
abbrev pub SameBut : Case → Case → Type 0
SameBut c d = (d.image ≡ c.image) × ((d.bits ≡ c.bits) × (d.table ≡ c.table))

-- words are set up as they are, replies with none of them used, and all else stays
abbrev pub SetUp : Case → Setting → Case → Type 0
SetUp c (setting.Image words) d = d ≡ record c { image = Some words }
SetUp c (setting.Bits words) d = d ≡ record c { bits = Some words }
SetUp c (setting.Script words) d = d ≡ record c { source = Some (source.Replies (record { words = words; used = 0 })) }
SetUp c other d = SameBut c d
