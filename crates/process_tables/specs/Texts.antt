-- The texts of walks through the files that a process had mapped (Linux core files, NT_FILE; POSIX.1, "Filename").
use Rattle.std.specs.Prelude.{ℕ, List, map}
use Rattle.std.specs.Option.{option_map}
use Rattle.core_notes.specs.declared.status.Thread.{Thread}
use Rattle.core_notes.specs.Checks.{file_threads}
use Rattle.core_notes.specs.Memory.{file_regions}
use Rattle.core_walk.specs.Walk.{thread_state}
use Rattle.sf_model.specs.Walk.{ThreadState}
use Rattle.sf_modules.specs.Entry.{EntryView}
use Rattle.sf_modules.specs.Name.{last_part}
use Rattle.sf_text.specs.FileFrames.{FileFrameView, FileView, file_frames_text}
use Rattle.sf_text.specs.Frames.{numbered_lines}
use Rattle.process_walk.specs.declared.stepping.ProcessFrame.{ProcessFrame}
use Rattle.process_walk.specs.Masks.{are_unmasked}
use Rattle.process_walk.specs.Walk.{ProcessListing}
use Rattle.process_tables.specs.Modules.{MappedModule, mapped_walk, module_at}

-- a module, as the line of a frame shows it: the last part of its word, and how far up it was mapped
abbrev pub file_shown : MappedModule → FileView
file_shown m = record { name = last_part m.word; base = m.base }

-- a frame with the module of its program counter
abbrev pub frame_shown : List EntryView → List MappedModule → ProcessFrame → FileFrameView
frame_shown entries modules f = record { frame = f.frame; file = option_map file_shown (module_at entries modules f.frame.pc); is_signal = f.is_signal }

-- how walks list a thread
abbrev pub Walking : Type 0
Walking = ThreadState → ProcessListing

-- the text of the walk of a thread of this number
abbrev pub thread_text : List EntryView → List MappedModule → Walking → (number : ℕ) → Thread → List ℕ
thread_text entries modules walk_of number thread =
    file_frames_text number thread.pid (map (frame_shown entries modules) (walk_of (thread_state thread)).frames) (walk_of (thread_state thread)).stop

-- the texts of the walks of threads, which are numbered from 0 on
abbrev pub thread_texts : List EntryView → List MappedModule → Walking → List Thread → List ℕ
thread_texts entries modules walk_of threads = numbered_lines (thread_text entries modules walk_of) 0 threads

-- the walks of all threads of a core file through these modules, with the file's memory, each of at most `depth` frames
abbrev pub mapped_walks : List EntryView → List MappedModule → (core : List ℕ) → (depth : ℕ) → List ℕ
mapped_walks entries modules core depth =
    thread_texts entries modules (λ thread. mapped_walk entries modules (are_unmasked (file_threads core)) thread (file_regions core) depth) (file_threads core)
