use Rattle.std.proofs.Common.{◌≡◌, ◌≤◌, length, List, ℕ, ap, sym, ◌∙◌, arith}
use Rattle.elf_read.specs.Linked.{linked_file}
use Rattle.elf_read.specs.Sections.{section_bytes}
use Rattle.elf_read.proofs.LinkedSound.{bytes_short}
use Rattle.elf_read.proofs.linked_elf.LinkedElf.bytes.Goals as goal

pub returns-clause-bytes : goal.returns-clause-bytes
returns-clause-bytes c =
    let elf = c.args.self.now in
    let same : c.args.i ≡ elf.eh_frame = elf.only c.args.i c.requires.index c.requires.is in
    c.deref.ensures.value ∙ elf.bytes_are ∙ ap (section_bytes (linked_file elf)) (sym same)

pub returns-clause-small : goal.returns-clause-small
returns-clause-small c =
    let elf = c.args.self.now in
    let len = ap (λ (xs : List ℕ). length xs) (c.deref.ensures.value ∙ elf.bytes_are) in
    let short : length (section_bytes (linked_file elf) elf.eh_frame) ≤ length (linked_file elf) = bytes_short (linked_file elf) elf.eh_frame in
    omega (arith, len, short, elf.small)
