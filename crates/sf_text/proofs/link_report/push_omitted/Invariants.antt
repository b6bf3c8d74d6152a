use Rattle.std.proofs.Common.{◌≡◌, ◌++◌, drop}
use Rattle.std.specs.Prelude.{string_bytes}
use Rattle.std.specs.List.{flat_map}
use Rattle.sf_text.specs.Report.{omitted_line}
use Rattle.sf_text.proofs.link_report.push_omitted.Given as goal

-- what is there and the lines that are left are all that is to be there
abbrev pub invariant-loop-function : goal.invariant-loop-function
invariant-loop-function l =
    string_bytes l.text ++ flat_map omitted_line (drop l.function-index l.omitted) ≡ string_bytes l.initial.text ++ flat_map omitted_line l.omitted
