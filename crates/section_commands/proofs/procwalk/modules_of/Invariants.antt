use Rattle.std.proofs.Common.{◌≡◌, ◌+◌, map, length}
use Rattle.std.specs.List.{zip}
use Rattle.std.specs.String.{string_bytes}
use Rattle.sf_modules.specs.Module.{module_view}
use Rattle.sf_modules.specs.Process.{process_view}
use Rattle.sf_modules.specs.ReadFile.{AreRead}
use Rattle.sf_words.specs.Loading.{loaded_bytes}
use Rattle.section_commands.proofs.Lists.{left}
use Rattle.section_commands.proofs.Procwalks.{ReadingFiles}
use Rattle.section_commands.proofs.procwalk.modules_of.Given as goal

abbrev pub invariant-loop-file : goal.invariant-loop-file
invariant-loop-file l = record {
  count : length l.modules.items ≡ l.file-index;
  reading :
      ReadingFiles (process_view l.process) (zip (map string_bytes l.names) (loaded_bytes l.files)) (l.file-index + 1) (left (map string_bytes l.names) l.files l.file-index) (map module_view l.modules.items);
  read : AreRead (process_view l.process) l.read.items;
}
