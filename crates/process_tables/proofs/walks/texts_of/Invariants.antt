use Rattle.std.specs.List.{AllZip}
use Rattle.std.proofs.Common.{◌≡◌, ◌<◌, ◌++◌, List, true, drop, length, map}
use Rattle.core_notes.specs.Memory.{file_regions}
use Rattle.core_parts.specs.Input.{is_part, memory_file}
use Rattle.process_walk.specs.Process.{entries_in, modules_in}
use Rattle.sf_text.specs.Frames.{numbered_lines}
use Rattle.process_tables.specs.Modules.{MappedModule}
use Rattle.process_tables.specs.Texts.{thread_text}
use Rattle.process_tables.specs.Views.{IsTableOf, rows_walk, section_view}
use Rattle.process_tables.proofs.walks.texts_of.Given as goal

-- what is there and the texts of the threads that are left are all that is to be there, if nothing was missed; and else parts of the core
-- file were read
abbrev pub invariant-loop-thread : goal.invariant-loop-thread
invariant-loop-thread l = record {
  number : l.number ≡ l.thread-index;
  missed : 0 < length l.missed.items → is_part l.memory ≡ true;
  text :
      (modules : List MappedModule) → AllZip IsTableOf modules l.tables → modules_in l.process ≡ map section_view modules → length l.missed.items ≡ 0
      → l.text.items ++ numbered_lines (thread_text (entries_in l.process) modules (λ thread. rows_walk l.process thread (file_regions (memory_file l.memory)) l.depth)) l.number (drop l.thread-index l.threads)
      ≡ numbered_lines (thread_text (entries_in l.process) modules (λ thread. rows_walk l.process thread (file_regions (memory_file l.memory)) l.depth)) 0 l.threads;
}
