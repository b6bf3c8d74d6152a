use Rattle.std.proofs.Common.{◌≡◌, length}
use Rattle.sf_bytes.specs.Parts.{AreParts}
use Rattle.elf_mapped.specs.Parts.{AreNoteParts, table_file}
use Rattle.elf_mapped.proofs.notes.take_notes.Given as goal

-- the notes of the segments so far
abbrev pub invariant-loop-i : goal.invariant-loop-i
invariant-loop-i l = (length l.notes.items ≡ l.i) × AreNoteParts (table_file l.table) l.notes.items × AreParts (table_file l.table) l.parts.items
