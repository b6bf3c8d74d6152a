use Rattle.std.proofs.Common.{ap, sym, ◌∙◌}
use Rattle.elf_mapped.specs.Program.{all_bytes}
use Rattle.elf_read.specs.Header.{arch_of}
use Rattle.sf_model.specs.declared.machine.Arch.{Arch}
use Rattle.sf_merge.specs.Merging.{same_arch}
use Rattle.sf_modules.specs.Process.{process_view}
use Rattle.sf_run.proofs.FilesRead.{mixed_comes}
use Rattle.sf_run.proofs.named_files.usable_table.Goals as goal

pub returns-then-not-same_machine-clause-refused : goal.returns-then-not-same_machine-clause-refused
returns-then-not-same_machine-clause-refused c =
    let p = process_view c.args.process.now in
    let made = c.in_ok-made.ensures.made in
    let machine = ap (same_arch (arch_of p.core)) made.2.machine ∙ ap (λ (a : Arch). same_arch a c.in_ok-made.made.mapped.machine) (sym c.requires.machine) ∙ sym c.same_machine.ensures in
    mixed_comes p c.args.item (c.args.word.now, all_bytes c.args.bytes) made.0 c.mixed.result made.1 (machine ∙ c.if-not-same_machine.true) c.mixed.ensures

pub returns-clause-made : goal.returns-clause-made
returns-clause-made c =
    let p = process_view c.args.process.now in
    let made = c.in_ok-made.ensures.made in
    let machine = ap (same_arch (arch_of p.core)) made.2.machine ∙ ap (λ (a : Arch). same_arch a c.in_ok-made.made.mapped.machine) (sym c.requires.machine) ∙ sym c.same_machine.ensures in
    (made.0, record { has = made.1; same = machine ∙ c.if-not-same_machine.false }, made.2)
