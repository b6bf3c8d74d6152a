use Rattle.std.proofs.Common.{◌≡◌, ◌+◌, ◌≤◌, length, sym, subst, arith}
use Rattle.elf_read.specs.Linked.{linked_file}
use Rattle.elf_read.proofs.Each.{each_below-more, each_below-none}
use Rattle.core_notes.specs.TotalSize.{note_size_below, note_room_check}
use Rattle.core_notes.proofs.Rooms.{note_size_below-more, note_size_below-none, room-holds}
use Rattle.elf_mapped.specs.Parts.{IsNotePart}
use Rattle.elf_mapped.proofs.notes.have_room.Goals as goal

pub loop-note-init : goal.loop-note-init
loop-note-init c = let f = linked_file c.args.linked.now in (sym (note_size_below-none f), omega arith, each_below-none (note_room_check f))

pub loop-note-preserved : goal.loop-note-preserved
loop-note-preserved c =
    let f = linked_file c.args.linked.now in
    let k = c.loop-note.note-index in
    let note = c.note-item.result in
    let here : IsNotePart f k note = subst (IsNotePart f k) (sym c.note-item.is) (c.requires k note c.loop-note-test.true) in
    let more = note_size_below-more f k in
    let taken : c.loop-note.taken + c.len.result ≡ note_size_below f (k + 1) = omega (c.loop-note.invariant.0, here.size, more, c.len.ensures, arith) in
    let fits : c.loop-note.taken + c.len.result ≤ length f = omega (arith, c.if-taken-from.false, c.from.ensures, c.len-in-loop-note.ensures) in
    (taken, fits, each_below-more k (note_room_check f) c.loop-note.invariant.2 (room-holds f k _ taken fits))
