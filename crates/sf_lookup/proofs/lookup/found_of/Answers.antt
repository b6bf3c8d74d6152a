use Rattle.std.proofs.Common.{◌-◌, ap, sym, ◌∙◌, None, Some}
use Rattle.sf_model.specs.declared.function.FuncHead.{FuncHead}
use Rattle.sf_model.specs.Lookup.{offset_in_block}
use Rattle.sf_decode.specs.View.{table_of, function_of}
use Rattle.sf_lookup.proofs.FoundRows.{found_in, row_fits}
use Rattle.sf_lookup.proofs.lookup.found_of.Goals as goal

pub returns-in_err-row-clause-found : goal.returns-in_err-row-clause-found
returns-in_err-row-clause-found c =
    let f = function_of c.args.view.now c.args.i in
    c.from_residual.ensures ∙ found_in (table_of c.args.view.now).functions c.args.pc f None c.requires.first (sym c.in_err-row.was ∙ c.requires.row)

pub returns-clause-found : goal.returns-clause-found
returns-clause-found c =
    let f = function_of c.args.view.now c.args.i in
    let row = c.in_ok-row.field-0 in
    ap (λ (head : FuncHead). Some (record { func = head; row = row })) c.requires.func
    ∙ found_in (table_of c.args.view.now).functions c.args.pc f (Some row) c.requires.first (sym c.in_ok-row.was ∙ c.requires.row)

pub returns-clause-fits : goal.returns-clause-fits
returns-clause-fits c =
    let f = function_of c.args.view.now c.args.i in
    let row = c.in_ok-row.field-0 in
    row_fits (table_of c.args.view.now).arch f.rows (offset_in_block f.shape (c.args.pc - f.start)) row c.function_is_sound.ensures.fits (sym c.in_ok-row.was ∙ c.requires.row)
