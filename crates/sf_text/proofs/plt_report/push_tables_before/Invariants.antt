use Rattle.std.proofs.Common.{◌≡◌, ◌++◌, drop}
use Rattle.std.specs.Prelude.{string_bytes}
use Rattle.std.specs.List.{flat_map}
use Rattle.sf_text.specs.PltReport.{table_line, tables_after, tables_before}
use Rattle.sf_text.proofs.plt_report.push_tables_before.Given as goal

-- what is there and the lines that come before the function are all that is to be there, and the others are the others of all
abbrev pub invariant-loop-index : goal.invariant-loop-index
invariant-loop-index l = record {
  text : string_bytes l.text ++ flat_map table_line (tables_before l.function (drop l.index l.plts)) ≡ string_bytes l.initial.text ++ flat_map table_line (tables_before l.function l.plts);
  left : tables_after l.function (drop l.index l.plts) ≡ tables_after l.function l.plts;
}
