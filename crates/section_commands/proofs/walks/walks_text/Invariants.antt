use Rattle.std.proofs.Common.{◌≡◌, ◌<◌, ◌≤◌, ◌++◌, drop, length, true}
use Rattle.sf_model.specs.Walk.{look_up_walk}
use Rattle.core_notes.specs.Checks.{file_threads}
use Rattle.core_notes.specs.Memory.{file_regions}
use Rattle.core_parts.specs.Input.{input_file, is_by_parts, is_part, memory_file}
use Rattle.section_commands.specs.Walks.{walks_text}
use Rattle.section_commands.proofs.walks.walks_text.Given as goal

-- while nothing was missed, what is there and the texts of the threads that are left are all that is to be there
abbrev pub invariant-loop-thread : goal.invariant-loop-thread
invariant-loop-thread g l = record {
  file : memory_file l.memory ≡ input_file l.core;
  part : is_part l.memory ≡ is_by_parts l.core;
  threads : l.thread-items ≡ file_threads (input_file l.core);
  few : length l.thread-items ≤ 4096;
  count : l.number ≡ l.thread-index;
  text :
      length l.walks.missed.items ≡ 0
      → l.walks.text.items ++ walks_text (λ thread. look_up_walk (g.L.LookUp.found_at l.rows) thread (file_regions (input_file l.core)) l.depth) l.number (drop l.thread-index l.thread-items)
      ≡ walks_text (λ thread. look_up_walk (g.L.LookUp.found_at l.rows) thread (file_regions (input_file l.core)) l.depth) 0 (file_threads (input_file l.core));
  parts : 0 < length l.walks.missed.items → is_by_parts l.core ≡ true;
}
