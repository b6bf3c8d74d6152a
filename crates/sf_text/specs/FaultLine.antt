-- The line of a fault, and the words that it has for one.
use Rattle.std.specs.Prelude.{◌++◌, ℕ, List, [], codes, Option, Some, None, if◌then◌else◌}
use Rattle.std.specs.List.{flat_map}
use Rattle.std.specs.Fmt.{decimal}
use Rattle.sf_model.specs.declared.notice.Notice.{Notice}
use Rattle.sf_model.specs.FaultShown.{ShownFault, shown_by}
use Rattle.sf_model.specs.Notice.{shows_item}
use Rattle.sf_text.specs.Number.{hexadecimal_text}
use Rattle.sf_text.specs.Names.{group_name}

-- the item and a blank
abbrev pub item_text : Option ℕ → List ℕ
item_text None = []
item_text (Some item) = decimal item ++ codes " "

-- a blank and the value
unfoldable pub value_text : ℕ → List ℕ
value_text value = codes " " ++ hexadecimal_text value

-- `GROUP FAULT VALUES`
abbrev pub fault_words : ShownFault → List ℕ
fault_words fault = group_name fault.group ++ codes " " ++ fault.name ++ flat_map value_text fault.values

-- `refused ITEM GROUP FAULT VALUES`, without the item in the group `link`
unfoldable pub fault_text : Notice → List ℕ
fault_text notice =
    codes "refused " ++ (if shows_item notice.fault.group then item_text notice.item else []) ++ fault_words (shown_by notice).fault ++ codes "\n"
