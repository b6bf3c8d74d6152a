use Rattle.std.proofs.Common.{◌≡◌, ◌∙◌, ℕ, List, length, ap, sym, arith, refl, length-append}
use Rattle.sf_model.specs.declared.function.FuncHead.{FuncHead}
use Rattle.sf_write.specs.declared.stored.StoredRows.{StoredRows}
use Rattle.sf_write.specs.declared.stored.StoredFunction.{StoredFunction}
use Rattle.sf_write.specs.Row.{rows_bytes}
use Rattle.sf_write.proofs.Kept.{stays}
use Rattle.sf_write.proofs.StoredFunctions.{RowsPushed, stored_new}
use Rattle.sf_write.proofs.stored.StoredRows.push_packed.Goals as goal

pub returns-in_err-width-clause-keeps : goal.returns-in_err-width-clause-keeps
returns-in_err-width-clause-keeps c f h = stays c.args.self.now (record { bytes = c.push_rows_to.new.bytes }) f c.push_rows_to.ensures.keeps h

pub returns-in_err-len-clause-keeps : goal.returns-in_err-len-clause-keeps
returns-in_err-len-clause-keeps c f h = stays c.args.self.now (record { bytes = c.push_rows_to.new.bytes }) f c.push_rows_to.ensures.keeps h

pub returns-clause-keeps : goal.returns-clause-keeps
returns-clause-keeps c f h = stays c.args.self.now (record { bytes = c.push_rows_to.new.bytes }) f c.push_rows_to.ensures.keeps h

pub returns-clause-pushed : goal.returns-clause-pushed
returns-clause-pushed c =
    let new : StoredRows = record { bytes = c.push_rows_to.new.bytes } in
    let func = c.args.func.now in
    let f : StoredFunction = record { head = c.head.result.now; arch = c.args.arch; width = c.in_ok-width.width; place = c.len-place.result; len = c.in_ok-len.len } in
    let old : List ℕ = c.args.self.now.bytes.items in
    let place : c.len-place.result ≡ length old = c.len-place.ensures ∙ c.args.self.now.bytes.ok.0 in
    let whole = ap length c.in_ok-width.ensures.ok ∙ length-append old (rows_bytes func.rows) in
    let after : c.len.result ≡ length new.bytes.items = c.len.ensures ∙ c.push_rows_to.new.bytes.ok.0 in
    let count : c.head.result.now.rows ≡ length func.rows = ap (λ (h : FuncHead). h.rows) c.head.ensures in
    let pushed : RowsPushed func.rows old new f = record {
      bytes = c.in_ok-width.ensures.ok;
      width = c.in_ok-width.ensures.width;
      held = c.in_ok-width.ensures.starts;
      room = c.in_ok-width.ensures.fits;
      count = count;
      place = place;
      end = omega (place, whole, after, c.in_ok-len.ensures, arith);
    } in
    stored_new c.args.arch func old new f c.requires pushed
    (c.head.ensures ∙ ap (λ (n : ℕ). record { start = func.start; size = func.size; shape = func.shape; key = func.key; rows = n }) (sym count)) refl
