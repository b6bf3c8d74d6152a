use Rattle.std.specs.List.{AllZip}
use Rattle.std.proofs.Common.{◌≡◌, List, map, take}
use Rattle.sf_text.specs.FileFrames.{file_frame_view}
use Rattle.process_walk.specs.Process.{entries_in, modules_in}
use Rattle.process_tables.specs.Modules.{MappedModule}
use Rattle.process_tables.specs.Texts.{frame_shown}
use Rattle.process_tables.specs.Views.{IsTableOf, section_view}
use Rattle.process_tables.proofs.walks.frames_of.Given as goal

-- the frames so far, with their files
abbrev pub invariant-loop-listed : goal.invariant-loop-listed
invariant-loop-listed l =
    (modules : List MappedModule) → AllZip IsTableOf modules l.tables → modules_in l.process ≡ map section_view modules
    → map file_frame_view l.shown.items ≡ map (frame_shown (entries_in l.process) modules) (take l.listed-index l.frames)
