use Rattle.std.proofs.Common.{◌≤◌, ℕ, List, Some, length, ap, subst, ◌∙◌, arith}
use Rattle.elf_read.specs.Sections.{section_bytes}
use Rattle.elf_mapped.specs.Mapped.{mapped_file}
use Rattle.elf_mapped.specs.Parts.{IsSframe}
use Rattle.elf_mapped.proofs.Short.{bytes_short}
use Rattle.elf_mapped.proofs.mapped_elf.MappedElf.sframe_bytes.Goals as goal

pub returns-in-Some-clause-small : goal.returns-in-Some-clause-small
returns-in-Some-clause-small c =
    let elf = c.args.self.now in
    let f = mapped_file elf in
    let sframe : IsSframe f (Some c.in-Some.sframe) = subst (IsSframe f) c.in-Some.is elf.has.sframe in
    let len = ap (λ (xs : List ℕ). length xs) (c.deref.ensures.value ∙ sframe.bytes) in
    let short : length (section_bytes f c.in-Some.sframe.number) ≤ length f = bytes_short f c.in-Some.sframe.number in
    omega (arith, len, short, elf.linked.small)
