use Rattle.std.proofs.Common.{ℕ, List, [], ◌∷◌, ◌++◌, sym, subst, ◌∙◌}
use Rattle.elf_groups.specs.SeenSignatures.{HasSeen}
use Rattle.elf_groups.proofs.Signatures.{front_stands, on_ok_more}
use Rattle.elf_groups.proofs.groups.SeenSignatures.is_text_repeated.Goals as goal

pub returns-clause-seen : goal.returns-clause-seen
returns-clause-seen c = on_ok_more c.is_repeated.result c.is_repeated.ensures.seen (λ all file seen has texts stands.
    subst (λ (bytes : List ℕ). HasSeen c.is_repeated.new.self (seen ++ bytes ∷ [])) (c.split_at.ensures.front ∙ sym (c.in_ok-len.ensures.len file texts.runs stands))
    (all file seen has (record { runs = c.in_ok-len.ensures.runs file texts.runs stands; known = texts.known })
    (front_stands file c.args.text.now.rest.now c.split_at.result.0.now c.args.text.now.place c.in_ok-len.len stands c.in_ok-len.ensures.within c.split_at.ensures.front)))

pub returns-clause-texts : goal.returns-clause-texts
returns-clause-texts c = on_ok_more c.is_repeated.result c.is_repeated.ensures.texts (λ all file seen has texts stands.
    all file seen has (record { runs = c.in_ok-len.ensures.runs file texts.runs stands; known = texts.known })
    (front_stands file c.args.text.now.rest.now c.split_at.result.0.now c.args.text.now.place c.in_ok-len.len stands c.in_ok-len.ensures.within c.split_at.ensures.front))
