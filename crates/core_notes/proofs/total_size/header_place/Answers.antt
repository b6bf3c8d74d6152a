use Rattle.std.proofs.Common.{◌≡◌, List, ℕ, ap, ◌∙◌, arith}
use Rattle.elf_read.specs.Header.{header_fields}
use Rattle.elf_read.specs.Number.{field_at}
use Rattle.elf_read.specs.Views.{file}
use Rattle.core_notes.proofs.total_size.header_place.Goals as goal

read : (c : goal.After-from) → c.u64_at.result ≡ (header_fields (file c.args.elf.now)).e_phoff
unfolding header_fields
read c = c.u64_at.ensures ∙ ap (λ (bytes : List ℕ). field_at 8 32 bytes) c.requires.same

pub overflow_add-result : goal.overflow_add-result
overflow_add-result c = omega (read c, c.requires.lies, c.requires.small, c.from.ensures, arith)

pub returns : goal.returns
returns c = omega (read c, c.from.ensures, arith)
