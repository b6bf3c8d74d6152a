use Rattle.std.proofs.Common.{ℕ, List, ◌==◌, ap, ◌∙◌}
use Rattle.std.specs.Cmp.Lexicographic.{pointwise}
use Rattle.elf_read.specs.Number.{text_in}
use Rattle.elf_read.proofs.Texts.{text_told}
use Rattle.elf_read.proofs.text.text_is.Goals as goal

pub returns : goal.returns
returns c =
    c.eq.ensures
    ∙ ap (λ (ys : List ℕ). pointwise (λ (a b : ℕ). a == b) ys c.args.text.now) (c.text_at.ensures ∙ ap (text_in 0) c.bytes_at.ensures.bytes)
    ∙ text_told c.args.place c.args.table.now c.args.text.now
