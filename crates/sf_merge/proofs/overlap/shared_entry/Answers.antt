use Rattle.std.proofs.Common.{Some, ap, ◌∙◌}
use Rattle.std.specs.Option.{option_map}
use Rattle.sf_decode.specs.View.{section_bytes}
use Rattle.sf_merge.proofs.InSection.{number_of, overlaps_are}
use Rattle.sf_merge.proofs.overlap.shared_entry.Goals as goal

pub returns-in_err-function : goal.returns-in_err-function
returns-in_err-function c =
    let bytes = section_bytes c.args.view.now in
    c.from_residual.ensures ∙ ap (option_map (number_of bytes)) c.in_err-function.ensures ∙ overlaps_are bytes c.entries.result.now c.args.ordered.now c.entries.ensures

pub returns : goal.returns
returns c =
    let bytes = section_bytes c.args.view.now in
    ap Some c.entry_place.ensures ∙ ap (option_map (number_of bytes)) c.in_ok-function.ensures ∙ overlaps_are bytes c.entries.result.now c.args.ordered.now c.entries.ensures
