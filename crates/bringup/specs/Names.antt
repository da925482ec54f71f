-- The words of the report.
use Rattle.std.specs.Prelude.{ℕ, List, Ok, Err, if◌then◌else◌, codes, Result, ◌==◌}
use Rattle.tdcall.specs.declared.TdCallError.{TdCallError}
use Rattle.tdcall.specs.Statuses.{name_of}
use Rattle.host.specs.declared.page_level.PageLevel.TheVariants.{L1_4K, L2_2M, L3_1G}
use Rattle.host.specs.Levels.{size_name}

abbrev pub level_name : ℕ → List ℕ
level_name l =
    if l == 0 then size_name L1_4K else if l == 1 then size_name L2_2M else if l == 2 then size_name L3_1G else codes "no"

abbrev pub pages_word : ℕ → List ℕ
pages_word n = if n == 1 then codes "page " else codes "pages"

abbrev pub reply_name : Result (Unit {0}) TdCallError → List ℕ
reply_name (Ok x) = codes "accepted"
reply_name (Err e) = name_of e
