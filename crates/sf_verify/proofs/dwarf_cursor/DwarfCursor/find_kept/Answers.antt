use Rattle.std.proofs.Common.{◌≡◌, ◌<◌, ◌≤◌, ◌+◌, arith, get_or, length, map, ap, refl, ◌∙◌}
use Rattle.std.proofs.lemmas.List.{get_or_default}
use Rattle.sf_model.specs.declared.function.Func.{Func}
use Rattle.sf_model.specs.declared.function.FuncHead.{FuncHead}
use Rattle.sf_decode.specs.View.{head_of}
use Rattle.sf_express.specs.ContentRanges.{range_of_row}
use Rattle.sf_asm.proofs.RowAt.{some_of}
use Rattle.sf_verify.specs.Asking.{contents_of}
use Rattle.sf_verify.proofs.HolderContent.{kept_held}
use Rattle.sf_verify.proofs.dwarf_cursor.DwarfCursor.find_kept.Goals as goal

pub returns-clause-ready : goal.returns-clause-ready
returns-clause-ready c =
    let kept = c.args.self.now.kept in
    let place = c.pass_kept-self.result in
    let low : place < length kept = c.if-not-kept_starts.ensures.within refl in
    let e : Func = some_of kept place low in
    let f : Func = get_or kept place e in
    let head : c.head-head.result ≡ head_of f = c.head-head.ensures e in
    record {
      holders = c.requires.holders;
      held = kept_held c.args.self.now.arch (contents_of c.args.self.now) kept c.args.self.now.omitted.now.functions place f c.hold_kept.new.held c.requires.holders low (get_or_default kept place e f low)
          (c.in_ok-hold_kept.ensures.start ∙ ap (λ (h : FuncHead). h.start) head)
          (c.in_ok-hold_kept.ensures.size ∙ ap (λ (h : FuncHead). h.size) head)
          (c.in_ok-hold_kept.ensures.key ∙ ap (λ (h : FuncHead). h.key) head)
          (c.in_ok-hold_kept.ensures.ranges ∙ ap (map range_of_row) (c.rows-rows.ensures e));
      kept_passed = c.pass_kept-self.ensures.passed;
      omitted_passed = c.requires.omitted_passed;
    }

pub returns-clause-found : goal.returns-clause-found
returns-clause-found c =
    let kept = c.args.self.now.kept in
    let place = c.pass_kept-self.result in
    let low : place < length kept = c.if-not-kept_starts.ensures.within refl in
    let e : Func = some_of kept place low in
    let head : c.head-head.result ≡ head_of (get_or kept place e) = c.head-head.ensures e in
    let from : (get_or kept place e).start ≤ c.args.pc = c.if-not-kept_starts.ensures.starts e refl in
    let to : c.args.pc < (get_or kept place e).start + (get_or kept place e).size = c.pass_kept-self.ensures.after e low in
    let start : c.hold_kept.new.held.start ≡ (get_or kept place e).start = c.in_ok-hold_kept.ensures.start ∙ ap (λ (h : FuncHead). h.start) head in
    let size : c.hold_kept.new.held.size ≡ (get_or kept place e).size = c.in_ok-hold_kept.ensures.size ∙ ap (λ (h : FuncHead). h.size) head in
    (omega (arith, from, start), omega (arith, to, start, size))
