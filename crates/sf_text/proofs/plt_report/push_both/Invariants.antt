use Rattle.std.proofs.Common.{◌≡◌, ◌++◌, drop}
use Rattle.std.specs.Prelude.{string_bytes}
use Rattle.sf_text.specs.PltReport.{omitted_and_tables}
use Rattle.sf_text.proofs.plt_report.push_both.Given as goal

-- what is there and the lines that are left are all that is to be there
abbrev pub invariant-loop-function : goal.invariant-loop-function
invariant-loop-function l =
    string_bytes l.text ++ omitted_and_tables (drop l.function-index l.omitted) l.left ≡ string_bytes l.initial.text ++ omitted_and_tables l.omitted l.plts
