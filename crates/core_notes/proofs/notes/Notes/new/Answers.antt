use Rattle.elf_read.specs.Views.{file}
use Rattle.core_notes.proofs.Segmented.{none_yet}
use Rattle.core_notes.proofs.notes.Notes.new.Goals as goal

pub returns : goal.returns
returns c = none_yet (file c.args.elf.now) c.new.result.place c.new.result.bytes.now c.new.ensures.bytes
