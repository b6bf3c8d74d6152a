use Rattle.std.proofs.Common.{sym, ◌∙◌}
use Rattle.sf_modules.proofs.Stretched.{no_name}
use Rattle.sf_modules.proofs.stretches.Stretches.any_maps.Goals as goal

pub returns-in-Some : goal.returns-in-Some
returns-in-Some c = λ entries h.
    let name = c.args.named.now.name.now in
    c.has_place.ensures ∙ h.stretches name c.in-Some.number c.args.address c.args.place (sym (h.numbers name) ∙ sym c.requires ∙ c.in-Some.is) c.ranges.address.fits c.ranges.place.fits

pub returns-in-None : goal.returns-in-None
returns-in-None c = λ entries h.
    let name = c.args.named.now.name.now in
    sym (no_name name 0 c.args.address c.args.place entries (sym (h.numbers name) ∙ sym c.requires ∙ c.in-None.is))
