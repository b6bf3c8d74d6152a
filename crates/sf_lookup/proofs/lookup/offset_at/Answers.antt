use Rattle.std.proofs.Common.{◌-◌, ap, arith}
use Rattle.sf_model.specs.declared.function.FuncHead.{FuncHead}
use Rattle.sf_decode.specs.View.{table_of, function_of}
use Rattle.sf_lookup.proofs.FoundRows.{block_below, ends_after, starts_by}
use Rattle.sf_lookup.proofs.lookup.offset_at.Goals as goal

pub overflow_sub-pc : goal.overflow_sub-pc
overflow_sub-pc c =
    let same = ap (λ (h : FuncHead). h.start) c.requires.func in
    let by = starts_by (table_of c.args.view.now).functions c.args.pc (function_of c.args.view.now c.args.i) c.requires.first in
    omega (same, by, arith)

pub returns-clause-below : goal.returns-clause-below
returns-clause-below c =
    let functions = (table_of c.args.view.now).functions in
    let f = function_of c.args.view.now c.args.i in
    let start = ap (λ (h : FuncHead). h.start) c.requires.func in
    let size = ap (λ (h : FuncHead). h.size) c.requires.func in
    let by = starts_by functions c.args.pc f c.requires.first in
    let end = ends_after functions c.args.pc f c.requires.first in
    let below = block_below c.args.func.now.shape (c.args.pc - c.args.func.now.start) in
    omega (start, size, by, end, below, c.fits_in_four_bytes.ensures, c.offset_in_block.ensures, arith)
