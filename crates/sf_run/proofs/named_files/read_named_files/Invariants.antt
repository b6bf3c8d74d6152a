use Rattle.std.proofs.Common.{◌≡◌, ◌+◌, map}
use Rattle.std.specs.List.{zip}
use Rattle.std.specs.String.{string_bytes}
use Rattle.sf_modules.specs.Process.{process_view}
use Rattle.sf_words.specs.Loading.{loaded_bytes}
use Rattle.section_commands.proofs.Lists.{left}
use Rattle.sf_run.proofs.FilesRead.{Reached}
use Rattle.sf_run.proofs.named_files.read_named_files.Given as goal

abbrev pub invariant-loop-file : goal.invariant-loop-file
invariant-loop-file l = record {
  count : l.item ≡ l.file-index;
  reached : Reached (process_view l.process) (zip (map string_bytes l.names) (loaded_bytes l.files)) (l.file-index + 1) (left (map string_bytes l.names) l.files l.file-index) l.named;
}
