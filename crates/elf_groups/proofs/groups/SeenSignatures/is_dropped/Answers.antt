use Rattle.std.proofs.Common.{◌≡◌, Bool, Some, None, cond, sym, ap, subst, ◌∙◌}
use Rattle.std.specs.Option.{option_and_then}
use Rattle.elf_read.specs.Input.{file}
use Rattle.elf_read.specs.Views.{text_bytes}
use Rattle.elf_groups.specs.Groups.{if_comdat, group_signature}
use Rattle.elf_groups.specs.Groups.{with_signature}
use Rattle.elf_groups.specs.SeenSignatures.{HasSeen}
use Rattle.elf_groups.proofs.Signatures.{on_ok_more}
use Rattle.elf_groups.proofs.groups.SeenSignatures.is_dropped.Goals as goal

pub returns-then-group-clause-seen : goal.returns-then-group-clause-seen
unfolding group_signature
returns-then-group-clause-seen c = on_ok_more c.is_text_repeated.result c.is_text_repeated.ensures.seen (λ all seen has texts.
    let text = text_bytes c.in-Some.group.signature in
    let is : group_signature (file c.args.elf.now) c.args.i ≡ Some text = ap (option_and_then if_comdat) (sym c.in-Some.ensures.group) ∙ ap (λ (b : Bool). cond b (Some text) None) c.if-group.true in
    subst (λ o. HasSeen c.is_text_repeated.new.self (with_signature seen o)) (sym is) (all (file c.args.elf.now) seen has texts c.in-Some.ensures.signature))

pub returns-then-group-clause-texts : goal.returns-then-group-clause-texts
returns-then-group-clause-texts c = on_ok_more c.is_text_repeated.result c.is_text_repeated.ensures.texts (λ all seen has texts. all (file c.args.elf.now) seen has texts c.in-Some.ensures.signature)
