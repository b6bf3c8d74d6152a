use Rattle.std.proofs.Common.{ℕ, ◌++◌, ◌∷◌, [], Some, List, length, subst, sym}
use Rattle.eh_records.specs.Cie.{cie_view}
use Rattle.frame_functions.specs.Numbers.{AreNumbered, IsNumberOf}
use Rattle.frame_functions.specs.Descriptions.{Common, common_of, common_view}
use Rattle.frame_functions.proofs.CommonParts.{number_added, number_of_named, numbered_still}
use Rattle.frame_functions.proofs.lent.add_common.Goals as goal

pub returns-clause-numbered : goal.returns-clause-numbered
returns-clause-numbered c =
    let section = c.args.section.now in
    let cie = cie_view c.args.fde.now.cie in
    let old = c.args.descriptions.now.common in
    let added = common_view c.common_part.result in
    let is = c.in_ok-number.ensures.common in
    let first : IsNumberOf (old ++ added ∷ []) (Some (common_of section.arch cie)) (length old) = subst (λ (x : Common). IsNumberOf (old ++ added ∷ []) (Some x) (length old)) c.common_part.ensures (number_added old added) in
    let own : IsNumberOf c.add_common.new.self.common (Some (common_of section.arch cie)) c.in_ok-number.number =
    subst (λ (cs : List Common). IsNumberOf cs (Some (common_of section.arch cie)) c.in_ok-number.number) (sym is)
    (subst (λ (n : ℕ). IsNumberOf (old ++ added ∷ []) (Some (common_of section.arch cie)) n) (sym c.in_ok-number.ensures.number) first) in
    c.in_ok-insert.ensures section.arch section.bytes.now c.add_common.new.self.common
    (subst (AreNumbered section.arch section.bytes.now c.args.numbers.now) (sym is) (numbered_still section.arch section.bytes.now c.args.numbers.now old added c.requires.numbered))
    (number_of_named section.arch section.bytes.now cie c.add_common.new.self.common c.in_ok-number.number c.requires.lent.named own)
