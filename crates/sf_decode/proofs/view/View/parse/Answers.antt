use Rattle.std.proofs.Common.{sym, arith}
use Rattle.sf_decode.proofs.EntriesRead.{section_stands}
use Rattle.sf_decode.proofs.Joined.{section_found, no_section}
use Rattle.sf_decode.proofs.view.View.parse.Goals as goal

pub returns-in_err-check_section-clause-complete :
    goal.returns-in_err-check_section-clause-complete
returns-in_err-check_section-clause-complete c =
    λ t s. absurd (no_section c.args.bytes.now c.args.at t c.in_err-check_section.field-0.0 (λ k. omega (c.type_inv.bytes k, arith)) (sym c.in_err-check_section.ensures) s)

pub returns-clause-sound : goal.returns-clause-sound
returns-clause-sound c =
    section_stands c.args.bytes.now c.args.at (λ k. omega (c.type_inv.bytes k, arith)) (sym c.in_ok-check_section.ensures)

pub returns-clause-complete : goal.returns-clause-complete
returns-clause-complete c =
    λ t s. section_found c.args.bytes.now c.args.at t (λ k. omega (c.type_inv.bytes k, arith)) s
