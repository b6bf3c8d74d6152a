use Rattle.std.specs.List.{filter}
use Rattle.std.proofs.Common.{◌≡◌, List, Option, None, arith, length, ap, subst, ◌∙◌}
use Rattle.sf_model.specs.declared.function.Func.{Func}
use Rattle.sf_decode.specs.View.{table_of}
use Rattle.sf_verify.specs.declared.sweep.Difference.{Difference}
use Rattle.sf_verify.specs.Agreement.{is_plain}
use Rattle.sf_verify.specs.Asking.{answers_of, kept_in, contents_of}
use Rattle.sf_verify.specs.Counting.{is_absent}
use Rattle.sf_merge.specs.Located.{located_functions}
use Rattle.sf_verify.specs.Comparing.{ComparesAll}
use Rattle.frame_functions.specs.ContentAt.{Answers}
use Rattle.sf_verify.specs.SectionContent.{section_at}
use Rattle.sf_verify.proofs.Counted.{at_most, rest_are}
use Rattle.sf_verify.proofs.verifying.verdict_on.Goals as goal

pub overflow_sub-result : goal.overflow_sub-result
overflow_sub-result c =
    let most = at_most is_plain (table_of c.args.view.now).functions in
    omega (arith, most, c.count_plain-checked.ensures, c.len.ensures.value)

pub returns : goal.returns
returns c =
    let section = section_at (located_functions c.args.ordered.now) in
    let functions = (table_of c.args.view.now).functions in
    let answers : contents_of c.new-dwarf.result ≡ answers_of (kept_in c.args.gathered.now) c.args.gathered.now.descriptions.functions = c.new-dwarf.ensures.says ∙ ap (λ (ks : List Func). answers_of ks c.args.gathered.now.descriptions.functions) c.new.ensures in
    let none = subst (λ (d : Option Difference). ComparesAll section (contents_of c.new-dwarf.result) d) c.in_default.is c.in_ok-difference.ensures in
    record {
      agree = subst (λ (q : Answers). ComparesAll section q None) answers none;
      checked_are = c.count_plain-checked.ensures;
      missing_are = c.count_missing.ensures ∙ ap (λ (ks : List Func). length (filter (is_absent (located_functions c.args.ordered.now)) ks)) c.new-2.ensures;
      repeats_are = rest_are is_plain functions c.count_plain-checked.result c.len.result c.count_plain-checked.ensures c.len.ensures.value;
    }
