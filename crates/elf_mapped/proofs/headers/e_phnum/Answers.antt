use Rattle.std.proofs.Common.{ap, ◌∙◌, arith, List, ℕ}
use Rattle.elf_read.specs.Header.{header_fields}
use Rattle.elf_read.specs.Linked.{linked_file}
use Rattle.elf_read.specs.Number.{field_at}
use Rattle.elf_mapped.proofs.Kept.{head_kept}
use Rattle.elf_mapped.proofs.headers.e_phnum.Goals as goal

pub returns : goal.returns
unfolding header_fields
returns c =
    let linked = c.args.linked.now in
    c.u16_at.ensures
    ∙ ap (λ (bytes : List ℕ). field_at 2 56 bytes) c.deref.ensures.value
    ∙ head_kept 2 56 (linked_file linked) linked.header.items linked.header_is (omega arith)
