use Rattle.std.proofs.Common.{eqb, sym, refl, ◌∙◌, rules, tests}
use Rattle.std.proofs.lemmas.Iterator.Adapters.{option_map_id}
use Rattle.std.proofs.lemmas.Iterator.Consumers.{YieldsList-from_first}
use Rattle.std.proofs.lemmas.Iterator.Search.{find_from_yields_List}
use Rattle.efi_entries.specs.declared.Entry.{Entry}
use Rattle.efi_entries.specs.declared.Entries.{Entries}
use Rattle.efi_entries.specs.Entries.{entries, table_guid}
use Rattle.efi_entries.proofs.table_entry.Goals as goal

pub returns : goal.returns
returns c =
    sym (option_map_id c.find.result)
    ∙ find_from_yields_List (λ (e : Entry). eqb e.guid table_guid) c.find.new.self _ _ c.find.ensures.ran
    (YieldsList-from_first (λ (e : Entry). e) (λ (s : Entries). entries s.0.now) _ refl) (λ x b q k. search (rules, tests))
