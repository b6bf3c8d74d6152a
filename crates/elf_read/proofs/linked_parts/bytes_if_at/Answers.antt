use Rattle.std.proofs.Common.{◌≡◌, ℕ, length, take, drop, ap, ◌∙◌, rules}
use Rattle.elf_read.proofs.linked_parts.bytes_if_at.Goals as goal

pub returns-clause-window : goal.returns-clause-window
returns-clause-window c = λ file part.
    let bytes = c.args.part.now.bytes.items in
    let len : length c.args.part.now.bytes.items ≡ c.args.size = search rules in
    let place : c.args.part.now.place ≡ c.args.place = search rules in
    c.deref.ensures.value
    ∙ part
    ∙ ap (λ (n : ℕ). take n (drop c.args.part.now.place file)) len
    ∙ ap (λ (p : ℕ). take c.args.size (drop p file)) place
