use Rattle.std.proofs.Common.{length, ap, arith}
use Rattle.elf_mapped.specs.Parts.{table_file}
use Rattle.elf_mapped.proofs.NoteParts.{no_parts, one_more}
use Rattle.elf_mapped.proofs.notes.take_notes.Goals as goal

pub loop-i-init : goal.loop-i-init
loop-i-init c = (ap length c.in_ok-notes.ensures.items, no_parts (table_file c.args.table.now) _ c.in_ok-notes.ensures.items, c.requires)

pub loop-i-preserved : goal.loop-i-preserved
loop-i-preserved c =
    let f = table_file c.args.table.now in (
      omega (arith, c.in_ok-push.ensures.len, c.loop-i.invariant.0),
      one_more f c.loop-i.notes.items _ c.loop-i.i c.in-Some.note c.loop-i.invariant.0 c.in_ok-push.ensures.items c.loop-i.invariant.1 c.in-Some.ensures.note,
      c.in-Some.ensures.rest,
    )
