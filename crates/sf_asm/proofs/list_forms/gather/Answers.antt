use Rattle.std.proofs.Common.{ℕ, ◌∙◌, arith, length, map, ap, sym}
use Rattle.std.proofs.lemmas.Result.{err_from_is_err_and}
use Rattle.std.proofs.lemmas.List.{length-map}
use Rattle.frame_functions.specs.ReadFunction.{kept_by_item}
use Rattle.sf_asm.specs.Functions.{object_of}
use Rattle.sf_asm.specs.Inputs.{first_item}
use Rattle.sf_asm.proofs.GatheredInputs.{gathered_within}
use Rattle.sf_asm.proofs.KeptByInput.{each_writable, is_of}
use Rattle.sf_asm.proofs.Kept.{kept_of_checked, some_kept_of_checked}
use Rattle.sf_asm.proofs.NeverMemory.{first_is_answered}
use Rattle.sf_asm.proofs.list_forms.gather.Goals as goal

pub sort_out-requires : goal.sort_out-requires
sort_out-requires c = λ k d lt.
    let within = gathered_within c.args.before (map object_of c.args.inputs.now) c.in_ok-read.read.entries c.in_ok-read.ensures.gathered k d lt in
    let count = length-map c.args.inputs.now object_of in
    (omega (arith, within.0, c.first_item-first.ensures), omega (arith, within.1, count, c.first_item-first.ensures))

pub returns-clause-gathered : goal.returns-clause-gathered
returns-clause-gathered c =
    let entries = c.in_ok-read.read.entries in
    record {
      ordered = entries;
      is = c.in_ok-read.ensures.gathered;
      kept_are = c.in_ok-sort_out.ensures.kept ∙ ap (λ (first : ℕ). kept_by_item first (length c.args.inputs.now) entries) c.first_item-first.ensures
          ∙ ap (λ (count : ℕ). kept_by_item (first_item c.args.before) count entries) (sym (length-map c.args.inputs.now object_of));
      together = rw c.in_ok-sort_out.ensures.arch (kept_of_checked c.in_ok-read.read.arch entries c.in_ok-read.ensures.sound c.in_ok-read.ensures.checked);
      omitted_are = c.in_ok-sort_out.ensures.omitted;
      spans_are = c.in_ok-sort_out.ensures.spans;
    }

pub returns-clause-kept : goal.returns-clause-kept
returns-clause-kept c =
    let entries = c.in_ok-read.read.entries in
    rw c.in_ok-sort_out.ensures.arch
    (each_writable c.in_ok-read.read.arch _ _ c.in_ok-sort_out.field-0.kept.items entries c.in_ok-sort_out.ensures.kept (λ item. some_kept_of_checked (is_of item) c.in_ok-read.read.arch entries c.in_ok-read.ensures.sound c.in_ok-read.ensures.checked))

pub returns-in_err-read-clause-answered : goal.returns-in_err-read-clause-answered
returns-in_err-read-clause-answered c =
    let p = err_from_is_err_and c.from_residual.result c.from_residual.ensures.1 in
    rw (p.1, p.2) (first_is_answered c.args.before (map object_of c.args.inputs.now) c.in_err-read.field-0.0 c.in_err-read.ensures.fault)
