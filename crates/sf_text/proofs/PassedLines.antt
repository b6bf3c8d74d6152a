-- The lines of files, by what the code has of each.
use Rattle.std.proofs.Common.{◌≡◌, ◌++◌, ℕ, List, [], ◌∷◌, map, refl, ap}
use Rattle.std.specs.List.{flat_map}
use Rattle.sf_text.specs.declared.passed.PassedFile.{PassedFile}
use Rattle.sf_text.specs.Passed.{passed_line, passed_lines, passed_view}

pub lines_of : (files : List PassedFile) → flat_map (λ file. passed_line (passed_view file)) files ≡ passed_lines (map passed_view files)
lines_of [] = refl
lines_of (file ∷ files) = ap (λ (lines : List ℕ). passed_line (passed_view file) ++ lines) (lines_of files)
