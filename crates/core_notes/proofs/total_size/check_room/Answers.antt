use Rattle.std.proofs.Common.{◌≡◌, ℕ, ◌+◌, ◌<◌, ◌≤◌, Err, length, sym, ap, ◌∙◌, arith}
use Rattle.elf_read.specs.declared.fault.ElfFault.TheVariants.{OutOfFile}
use Rattle.elf_read.specs.Header.{program_header}
use Rattle.elf_read.specs.Views.{file}
use Rattle.elf_read.proofs.Each.{each_below-more, each_below-none, each_below-stop}
use Rattle.core_notes.specs.TotalSize.{note_size_below, note_room_check}
use Rattle.core_notes.proofs.Rooms.{note_size_below-more, note_size_below-none, room-fails, room-holds}
use Rattle.core_notes.proofs.total_size.check_room.Goals as goal

pub loop-i-init : goal.loop-i-init
loop-i-init c = (sym (note_size_below-none (file c.args.elf.now)), omega arith, each_below-none (note_room_check (file c.args.elf.now)))

pub returns-then-taken-bytes : goal.returns-then-taken-bytes
returns-then-taken-bytes c =
    let bytes = file c.args.elf.now in
    let i = c.loop-i.i in
    let more = note_size_below-more bytes i in
    let taken : c.loop-i.taken + c.note_size-taken.result ≡ note_size_below bytes (i + 1) = omega (c.loop-i.invariant.0, c.note_size-taken.ensures.value, more, arith) in
    let over : length bytes < c.loop-i.taken + c.note_size-taken.result = omega (c.if-taken-bytes.true, ap length c.requires.same, arith) in
    ap (λ (place : ℕ). Err (OutOfFile place)) c.header_place.ensures
    ∙ sym (each_below-stop _ i (note_room_check bytes) (OutOfFile (program_header bytes i)) (c.loop-i-test.true) c.loop-i.invariant.2 (room-fails bytes i _ taken over))

pub loop-i-preserved : goal.loop-i-preserved
loop-i-preserved c =
    let bytes = file c.args.elf.now in
    let i = c.loop-i.i in
    let more = note_size_below-more bytes i in
    let taken : c.loop-i.taken + c.note_size-taken.result ≡ note_size_below bytes (i + 1) = omega (c.loop-i.invariant.0, c.note_size-taken.ensures.value, more, arith) in
    let fits : c.loop-i.taken + c.note_size-taken.result ≤ length bytes = omega (c.if-taken-bytes.false, ap length c.requires.same, arith) in
    (taken, fits, each_below-more i (note_room_check bytes) c.loop-i.invariant.2 (room-holds bytes i _ taken fits))

pub header_place-requires : goal.header_place-requires
header_place-requires c = record { small = c.requires.small; same = c.requires.same; lies = c.requires.lie c.loop-i.i c.loop-i-test.true }
