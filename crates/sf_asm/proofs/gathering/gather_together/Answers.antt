use Rattle.std.proofs.Common.{map, subst, sym}
use Rattle.std.proofs.lemmas.Result.{err_from_is_err_and}
use Rattle.sf_model.specs.Function.{AreWritable}
use Rattle.sf_asm.specs.Functions.{object_of}
use Rattle.sf_asm.proofs.Kept.{kept_of_checked}
use Rattle.sf_asm.proofs.NeverMemory.{first_is_answered}
use Rattle.sf_asm.proofs.gathering.gather_together.Goals as goal

pub returns-clause-gathered : goal.returns-clause-gathered
returns-clause-gathered c = record {
  ordered = c.in_ok-read.read.entries;
  is = c.in_ok-read.ensures.gathered;
  kept_are = c.in_ok-part.ensures.kept;
  writable = rw c.in_ok-part.ensures.arch (subst (AreWritable c.in_ok-read.read.arch) (sym c.in_ok-part.ensures.kept) (kept_of_checked c.in_ok-read.read.arch c.in_ok-read.read.entries c.in_ok-read.ensures.sound c.in_ok-read.ensures.checked));
  omitted_are = c.in_ok-part.ensures.omitted;
}

pub returns-in_err-read-clause-answered : goal.returns-in_err-read-clause-answered
returns-in_err-read-clause-answered c =
    let p = err_from_is_err_and c.from_residual.result c.from_residual.ensures.1 in
    rw (p.1, p.2) (first_is_answered c.args.before (map object_of c.args.inputs.now) c.in_err-read.field-0.0 c.in_err-read.ensures.fault)
