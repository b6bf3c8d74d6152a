-- The report of a link: a line for each function that is omitted, and a line with the counts.
use Rattle.std.specs.Prelude.{◌++◌, ℕ, List, [], length, codes, Option, Some, None}
use Rattle.std.specs.List.{flat_map}
use Rattle.std.specs.Fmt.{decimal}
use Rattle.sf_model.specs.declared.omission.Omission.{Omission}
use Rattle.sf_model.specs.declared.omission.Origin.{Origin}
use Rattle.sf_model.specs.declared.omission.Omitted.{Omitted}
use Rattle.sf_text.specs.Number.{hexadecimal_text}
use Rattle.sf_text.specs.Names.{reason_name}

-- the offset at which the reason holds, if it is a row's reason
abbrev pub offset_text : Option ℕ → List ℕ
offset_text None = []
offset_text (Some offset) = codes " at " ++ decimal offset

-- `omit START size SIZE`
unfoldable pub span_text : (start size : ℕ) → List ℕ
span_text start size = codes "omit " ++ hexadecimal_text start ++ codes " size " ++ decimal size

-- ` input ITEM section NUMBER fde PLACE`
unfoldable pub origin_text : Origin → List ℕ
origin_text origin =
    codes " input " ++ decimal origin.item ++ codes " section " ++ decimal origin.section ++ codes " fde " ++ hexadecimal_text origin.place

-- ` REASON`, and ` at OFFSET` for a row's reason
unfoldable pub omission_text : Omission → List ℕ
omission_text omission = codes " " ++ reason_name omission.reason ++ offset_text omission.offset

-- `omit START size SIZE input ITEM section NUMBER fde PLACE REASON`, and ` at OFFSET` for a row's reason
unfoldable pub omitted_line : Omitted → List ℕ
omitted_line f = span_text f.start f.size ++ origin_text f.origin ++ omission_text f.omission ++ codes "\n"

-- `kept COUNT omitted COUNT`
unfoldable pub counts_line : (kept omitted : ℕ) → List ℕ
counts_line kept omitted = codes "kept " ++ decimal kept ++ codes " omitted " ++ decimal omitted ++ codes "\n"

-- the whole report
unfoldable pub report_text : (kept : ℕ) → List Omitted → List ℕ
report_text kept omitted = flat_map omitted_line omitted ++ counts_line kept (length omitted)
