use Rattle.std.proofs.Common.{◌≡◌, ◌≤◌, ◌^◌, map, length}
use Rattle.std.specs.List.{zip}
use Rattle.sf_decode.specs.View.{table_of}
use Rattle.sf_merge.specs.Merging.{functions_in_all, rows_in_all}
use Rattle.sf_words.specs.Loading.{loaded_bytes}
use Rattle.sf_words.specs.Named.{named_sections}
use Rattle.section_commands.proofs.Lists.{left}
use Rattle.section_commands.proofs.Merged.{ReadingSections}
use Rattle.section_commands.proofs.merge.views_of.Given as goal

abbrev pub invariant-loop-file : goal.invariant-loop-file
invariant-loop-file l = record {
  count : length l.views.items ≡ l.file-index;
  functions : l.functions ≡ functions_in_all (map table_of l.views.items);
  few_functions : l.functions ≤ 2 ^ 21;
  rows : l.rows ≡ rows_in_all (map table_of l.views.items);
  few_rows : l.rows ≤ 2 ^ 24;
  reading : ReadingSections (zip (named_sections l.sections) (loaded_bytes l.loaded)) l.file-index (left (named_sections l.sections) l.loaded l.file-index) (map table_of l.views.items);
}
