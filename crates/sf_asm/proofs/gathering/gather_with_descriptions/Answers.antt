use Rattle.std.proofs.Common.{List, Ok, map, ap, subst, sym, ◌∙◌, refl}
use Rattle.std.proofs.lemmas.Result.{err_from_is_err_and}
use Rattle.sf_model.specs.Function.{AreWritable}
use Rattle.frame_functions.specs.declared.read_function.ReadFunction.{ReadFunction}
use Rattle.frame_functions.specs.ReadFunction.{kept_of, omitted_of}
use Rattle.sf_asm.specs.Functions.{object_of}
use Rattle.sf_asm.specs.Inputs.{first_item}
use Rattle.sf_asm.specs.Linking.{Gathers}
use Rattle.frame_functions.specs.Descriptions.{DescriptionsView}
use Rattle.sf_asm.proofs.ByStart.{are_by_start, ordered_are, sorted_functions, descriptions_are}
use Rattle.sf_asm.proofs.Described.{describe}
use Rattle.sf_asm.proofs.GatheredInputs.{are_read}
use Rattle.sf_asm.proofs.Kept.{kept_of_checked}
use Rattle.frame_functions.proofs.Lending.{are_lent}
use Rattle.sf_asm.proofs.NeverMemory.{first_is_answered}
use Rattle.sf_asm.proofs.gathering.gather_with_descriptions.Goals as goal

pub returns-clause-gathered : goal.returns-clause-gathered
returns-clause-gathered c =
    let objects = map object_of c.args.inputs.now in
    let entries = c.in_ok-read.read.entries in
    let read = are_read c.args.before objects entries c.in_ok-read.ensures.gathered in
    let is = ordered_are read.functions entries read.in_order in
    let kept = c.in_ok-part.ensures.kept in
    record {
      functions = read.functions;
      are = describe (first_item c.args.before) objects (Ok read.functions) read.are;
      sorted = sorted_functions read.functions;
      by_start = are_by_start read.functions;
      is = subst (λ (es : List ReadFunction). Gathers c.args.before objects (Ok es)) is c.in_ok-read.ensures.gathered;
      kept_are = kept ∙ ap kept_of is;
      writable = rw c.in_ok-part.ensures.arch (subst (AreWritable c.in_ok-read.read.arch) (sym kept) (kept_of_checked c.in_ok-read.read.arch entries c.in_ok-read.ensures.sound c.in_ok-read.ensures.checked));
      omitted_are = c.in_ok-part.ensures.omitted ∙ ap omitted_of is;
      descriptions_are = ap (λ (s : DescriptionsView). s.functions) c.in_ok-part.ensures.descriptions ∙ descriptions_are read.functions c.in_ok-read.read.descriptions.functions c.sort.new.self.functions (are_lent _ read.functions _ read.are (c.in_ok-read.ensures.lent refl)) c.in_ok-sort.ensures;
    }

pub returns-in_err-read-clause-answered : goal.returns-in_err-read-clause-answered
returns-in_err-read-clause-answered c =
    let p = err_from_is_err_and c.from_residual.result c.from_residual.ensures.1 in
    rw (p.1, p.2) (first_is_answered c.args.before (map object_of c.args.inputs.now) c.in_err-read.field-0.0 c.in_err-read.ensures.fault)
