use Rattle.std.proofs.Common.{◌≡◌, ◌∙◌, ℕ, List, length, ap, subst, arith, refl, length-append}
use Rattle.sf_model.specs.declared.rows.Row.{Row}
use Rattle.sf_write.specs.declared.stored.StoredRows.{StoredRows}
use Rattle.sf_write.specs.declared.stored.StoredFunction.{StoredFunction}
use Rattle.sf_write.specs.Row.{rows_bytes}
use Rattle.sf_write.proofs.Kept.{stays}
use Rattle.sf_write.proofs.StoredFunctions.{RowsPushed, stored_new}
use Rattle.sf_write.proofs.stored.StoredRows.push.Goals as goal

pub returns-in_err-width-clause-keeps : goal.returns-in_err-width-clause-keeps
returns-in_err-width-clause-keeps c f h = stays c.args.self.now (record { bytes = c.push_rows.new.bytes }) f c.push_rows.ensures.keeps h

pub returns-in_err-len-clause-keeps : goal.returns-in_err-len-clause-keeps
returns-in_err-len-clause-keeps c f h = stays c.args.self.now (record { bytes = c.push_rows.new.bytes }) f c.push_rows.ensures.keeps h

pub returns-in_err-counted-clause-keeps : goal.returns-in_err-counted-clause-keeps
returns-in_err-counted-clause-keeps c f h = stays c.args.self.now (record { bytes = c.push_rows.new.bytes }) f c.push_rows.ensures.keeps h

pub returns-clause-keeps : goal.returns-clause-keeps
returns-clause-keeps c f h = stays c.args.self.now (record { bytes = c.push_rows.new.bytes }) f c.push_rows.ensures.keeps h

pub returns-clause-pushed : goal.returns-clause-pushed
returns-clause-pushed c =
    let new : StoredRows = record { bytes = c.push_rows.new.bytes } in
    let f : StoredFunction = record {
      head = record { start = c.args.func.now.start; size = c.args.func.now.size; shape = c.args.func.now.shape; key = c.args.func.now.key; rows = c.in_ok-counted.field-0 };
      arch = c.args.arch;
      width = c.in_ok-width.width;
      place = c.len-place.result;
      len = c.in_ok-len.len;
    } in
    let old : List ℕ = c.args.self.now.bytes.items in
    let place : c.len-place.result ≡ length old = c.len-place.ensures ∙ c.args.self.now.bytes.ok.0 in
    let whole = ap length c.in_ok-width.ensures.ok ∙ length-append old (rows_bytes c.as_slice-rows.result.now) in
    let after : c.len.result ≡ length new.bytes.items = c.len.ensures ∙ c.push_rows.new.bytes.ok.0 in
    let pushed : RowsPushed c.as_slice-rows.result.now old new f = record {
      bytes = c.in_ok-width.ensures.ok;
      width = c.in_ok-width.ensures.width;
      held = c.in_ok-width.ensures.starts;
      room = c.in_ok-width.ensures.fits;
      count = c.in_ok-counted.ensures;
      place = place;
      end = omega (place, whole, after, c.in_ok-len.ensures, arith);
    } in
    stored_new c.args.arch c.args.func.now old new f c.requires (subst (λ (rows : List Row). RowsPushed rows old new f) c.as_slice-rows.ensures pushed) refl refl
