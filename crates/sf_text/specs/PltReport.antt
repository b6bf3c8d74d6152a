-- The report of a link with procedure linkage tables: a line for each function that is omitted and for each table, in the order of both
-- by start and then origin, and a line with the counts.
use Rattle.std.specs.Prelude.{◌++◌, ◌==◌, ◌&&◌, ◌||◌, ℕ, Bool, nat_lt, List, [], ◌∷◌, length, codes, if◌then◌else◌}
use Rattle.std.specs.List.{flat_map}
use Rattle.std.specs.Fmt.{decimal}
use Rattle.sf_model.specs.declared.omission.Omitted.{Omitted}
use Rattle.sf_model.specs.declared.omission.Origin.{Origin}
use Rattle.sf_model.specs.declared.omission.Span.{Span}
use Rattle.sf_text.specs.Number.{hexadecimal_text}
use Rattle.sf_text.specs.Report.{omitted_line, origin_text}

-- `plt START size SIZE`
unfoldable pub table_text : (start size : ℕ) → List ℕ
table_text start size = codes "plt " ++ hexadecimal_text start ++ codes " size " ++ decimal size

-- `plt START size SIZE input ITEM section NUMBER fde PLACE`
unfoldable pub table_line : Span → List ℕ
table_line table = table_text table.start table.size ++ origin_text table.origin ++ codes "\n"

-- the first record is of an earlier input, or else of an earlier section, or else is earlier in its section
abbrev pub is_earlier : Origin → Origin → Bool
is_earlier a b = nat_lt a.item b.item || ((a.item == b.item) && (nat_lt a.section b.section || ((a.section == b.section) && nat_lt a.place b.place)))

-- the table comes before the omitted function
abbrev pub comes_before : Omitted → Span → Bool
comes_before f table = nat_lt table.start f.start || ((table.start == f.start) && is_earlier table.origin f.origin)

-- the tables at the front that come before an omitted function
abbrev pub tables_before : Omitted → List Span → List Span
tables_before f [] = []
tables_before f (table ∷ tables) = if comes_before f table then table ∷ tables_before f tables else []

-- the tables after those that come before an omitted function
abbrev pub tables_after : Omitted → List Span → List Span
tables_after f [] = []
tables_after f (table ∷ tables) = if comes_before f table then tables_after f tables else table ∷ tables

-- the lines of the omitted functions and the tables: before each function those of the tables that come before it
abbrev pub omitted_and_tables : List Omitted → List Span → List ℕ
omitted_and_tables [] tables = flat_map table_line tables
omitted_and_tables (f ∷ omitted) tables =
    flat_map table_line (tables_before f tables) ++ omitted_line f ++ omitted_and_tables omitted (tables_after f tables)

-- `kept COUNT omitted COUNT plt COUNT`
unfoldable pub three_counts_line : (kept omitted tables : ℕ) → List ℕ
three_counts_line kept omitted tables = codes "kept " ++ decimal kept ++ codes " omitted " ++ decimal omitted ++ codes " plt " ++ decimal tables ++ codes "\n"

-- the whole report
unfoldable pub plt_report_text : (kept : ℕ) → List Omitted → List Span → List ℕ
plt_report_text kept omitted tables = omitted_and_tables omitted tables ++ three_counts_line kept (length omitted) (length tables)
