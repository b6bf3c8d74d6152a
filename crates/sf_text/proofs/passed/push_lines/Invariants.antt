use Rattle.std.proofs.Common.{◌≡◌, ◌++◌, drop}
use Rattle.std.specs.Prelude.{string_bytes}
use Rattle.std.specs.List.{flat_map}
use Rattle.sf_text.specs.Passed.{passed_line, passed_view}
use Rattle.sf_text.proofs.passed.push_lines.Given as goal

-- what is there and the lines of the files that are left are all that is to be there
abbrev pub invariant-loop-file : goal.invariant-loop-file
invariant-loop-file l =
    string_bytes l.text ++ flat_map (λ file. passed_line (passed_view file)) (drop l.file-index l.passed) ≡ string_bytes l.initial.text ++ flat_map (λ file. passed_line (passed_view file)) l.passed
