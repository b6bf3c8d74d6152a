use Rattle.std.specs.Option.{option_copied}
use Rattle.std.proofs.Common.{◌≡◌, ◌∙◌, None, sym, ap, length, vec_len, rules}
use Rattle.elf_groups.specs.declared.text_numbers.TextNumbers.{TextNumbers}
use Rattle.elf_groups.specs.declared.text_numbers.BlockText.{BlockText}
use Rattle.elf_groups.specs.TextNumbers.{number_kept}
use Rattle.elf_groups.proofs.WholeBlocks.{is_one_more, kept_number, one_more}
use Rattle.elf_groups.proofs.text_numbers.TextNumbers.number.Goals as goal

pub returns-in-Some-clause-number : goal.returns-in-Some-clause-number
returns-in-Some-clause-number c = λ are follows.
    kept_number c.args.self.now c.args.rest c.in-Some.number.now c.split_at.result.0.now c.args.text.now are follows c.split_at.ensures.front (sym c.get.ensures.value ∙ ap option_copied c.in-Some.is)

pub returns-clause-blocks : goal.returns-clause-blocks
returns-clause-blocks c = λ are follows.
    let new : TextNumbers = record { texts = c.push.new.self; numbers = c.insert.new.self } in
    let text : BlockText = record { rest = c.args.rest; bytes = c.args.text } in
    let absent : number_kept c.args.self.now c.args.rest c.split_at.result.0.now ≡ None = sym c.get.ensures.value ∙ ap option_copied c.in_default.is in
    let long : vec_len c.push.new.self ≡ length c.push.new.self.items = search rules in
    one_more c.args.self.now new c.args.rest c.args.text.now
    (is_one_more c.args.self.now new text c.split_at.result.0 c.len-number.result c.in_ok-push.ensures.items c.in_ok-insert.ensures.updates (c.len-number.ensures ∙ long) c.split_at.ensures.front absent)
    are c.requires follows
