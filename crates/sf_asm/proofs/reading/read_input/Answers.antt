use Rattle.std.proofs.Common.{sym, subst}
use Rattle.sf_asm.specs.declared.input.InputBytes.{InputBytes}
use Rattle.sf_asm.specs.Functions.{bytes_of, form_of, seen_behind}
use Rattle.elf_groups.specs.SeenSignatures.{HasSeen}
use Rattle.elf_groups.proofs.Signatures.{on_ok_more}
use Rattle.sf_asm.proofs.reading.read_input.Goals as goal

pub returns-in-File-clause-seen : goal.returns-in-File-clause-seen
returns-in-File-clause-seen c = on_ok_more c.read_file.result c.read_file.ensures.seen (λ all signatures has.
    subst (λ (given : InputBytes). HasSeen c.read_file.new.seen (seen_behind signatures (record { form = form_of given; bytes = bytes_of given; base = c.args.input.now.base }))) (sym c.in-File.is) (all signatures has))

pub returns-in-Linked-clause-seen : goal.returns-in-Linked-clause-seen
returns-in-Linked-clause-seen c = on_ok_more c.read_linked.result c.read_linked.ensures.seen (λ all signatures has.
    subst (λ (given : InputBytes). HasSeen c.read_linked.new.seen (seen_behind signatures (record { form = form_of given; bytes = bytes_of given; base = c.args.input.now.base }))) (sym c.in-Linked.is) (all signatures has))
