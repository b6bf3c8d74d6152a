use Rattle.std.proofs.Common.{◌≡◌, ◌-◌, Some}
use Rattle.elf_read.specs.Views.{file}
use Rattle.elf_read.specs.Sections.{segment_count}
use Rattle.core_notes.specs.Listing.{notes_remaining}
use Rattle.core_notes.proofs.notes.Notes.go_on.Given as goal

abbrev pub invariant-loop-elf : goal.invariant-loop-elf
invariant-loop-elf l = (l.self.elf ≡ Some l.elf) × (notes_remaining l.self ≡ notes_remaining l.initial.self)

abbrev pub decreases-loop-elf : goal.decreases-loop-elf
decreases-loop-elf l = segment_count (file l.elf) - l.self.segment
