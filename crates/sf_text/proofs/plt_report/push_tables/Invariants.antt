use Rattle.std.proofs.Common.{◌≡◌, ◌++◌, drop}
use Rattle.std.specs.Prelude.{string_bytes}
use Rattle.std.specs.List.{flat_map}
use Rattle.sf_text.specs.PltReport.{table_line}
use Rattle.sf_text.proofs.plt_report.push_tables.Given as goal

-- what is there and the lines that are left are all that is to be there
abbrev pub invariant-loop-table : goal.invariant-loop-table
invariant-loop-table l =
    string_bytes l.text ++ flat_map table_line (drop l.table-index l.plts) ≡ string_bytes l.initial.text ++ flat_map table_line l.plts
