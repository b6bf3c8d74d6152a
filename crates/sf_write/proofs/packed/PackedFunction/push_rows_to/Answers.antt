use Rattle.std.proofs.Common.{◌≡◌, ◌++◌, ℕ, List, ap, rules, ◌∙◌}
use Rattle.std.specs.List.{flat_map}
use Rattle.sf_model.specs.declared.function.Func.{Func}
use Rattle.sf_model.specs.declared.rows.Row.{Row}
use Rattle.sf_decode.specs.Row.{rows_in}
use Rattle.sf_write.specs.Packed.{unpacked}
use Rattle.sf_write.specs.Row.{narrow_row, rows_bytes}
use Rattle.sf_write.proofs.Kept.{begin_front}
use Rattle.sf_write.proofs.RowsPacked.{narrow_bytes, narrow_rows, narrow_width}
use Rattle.sf_write.proofs.packed.PackedFunction.push_rows_to.Goals as goal

pub returns-in_err-extend_from_slice-clause-keeps : goal.returns-in_err-extend_from_slice-clause-keeps
returns-in_err-extend_from_slice-clause-keeps c = begin_front _ c.args.bytes.now.items c.extend_from_slice.new.self.items _ c.extend_from_slice.ensures.items

pub returns-in_ok-extend_from_slice-clause-keeps : goal.returns-in_ok-extend_from_slice-clause-keeps
returns-in_ok-extend_from_slice-clause-keeps c = begin_front _ c.args.bytes.now.items c.extend_from_slice.new.self.items _ c.extend_from_slice.ensures.items

pub returns-in_ok-extend_from_slice-clause-ok : goal.returns-in_ok-extend_from_slice-clause-ok
returns-in_ok-extend_from_slice-clause-ok c =
    let old = c.args.bytes.now.items in
    let packed = c.self.inside.rows in
    let rows = (unpacked c.self.inside.arch c.self.inside.head packed).rows in
    let same : c.row_type-width.result ≡ packed.width = search rules in
    c.in_ok-extend_from_slice.ensures.items
    ∙ ap (λ (run : List ℕ). old ++ run) (c.as_slice.ensures.value ∙ narrow_bytes packed rows c.row_type-width.result c.self.invariant c.row_type-width.ensures.value same)
    ∙ ap (λ (f : Func). old ++ rows_bytes f.rows) c.self.view_is

pub returns-in_ok-push_all-clause-ok : goal.returns-in_ok-push_all-clause-ok
returns-in_ok-push_all-clause-ok c =
    let old = c.args.bytes.now.items in
    let arch = c.self.inside.arch in
    let head = c.self.inside.head in
    let packed = c.self.inside.rows in
    let width = c.row_type-width.result in
    let rows = (unpacked arch head packed).rows in
    c.in_ok-push_all.ensures.ok
    ∙ ap (λ (left : List Row). old ++ flat_map (narrow_row width) left)
    (c.new-rows.ensures ∙ ap (λ (bytes : List ℕ). rows_in arch bytes packed.width 0 head.rows) c.as_slice-else-width-packed.ensures.value)
    ∙ ap (λ (run : List ℕ). old ++ run) (narrow_rows rows width (narrow_width packed rows width c.self.invariant c.row_type-width.ensures.value))
    ∙ ap (λ (f : Func). old ++ rows_bytes f.rows) c.self.view_is
