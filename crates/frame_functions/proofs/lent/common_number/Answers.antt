use Rattle.std.proofs.Common.{sym, ◌∙◌}
use Rattle.eh_records.specs.Cie.{cie_view}
use Rattle.frame_functions.proofs.CommonParts.{named_number}
use Rattle.frame_functions.proofs.lent.common_number.Goals as goal

pub returns-in-Some-clause-number : goal.returns-in-Some-clause-number
returns-in-Some-clause-number c =
    let section = c.args.section.now in
    let cie = cie_view c.args.fde.now.cie in
    named_number section.arch section.bytes.now cie c.args.descriptions.now.common c.in-Some.number c.requires.lent.named (c.requires.numbered cie.place c.in-Some.number (sym c.get.ensures ∙ c.in-Some.is))
