use Rattle.std.proofs.Common.{map, refl}
use Rattle.sf_model.specs.Lookup.{contains}
use Rattle.frame_functions.specs.Functions.{holds_address}
use Rattle.sf_asm.specs.Functions.{object_of}
use Rattle.frame_functions.specs.Descriptions.{described_function}
use Rattle.frame_functions.proofs.Lending.{if_ok}
use Rattle.sf_asm.proofs.RowAt.{found_in, kept_askable, no_row, none_in, omitted_within, row_of_kept, row_of_omitted, with_kept}
use Rattle.sf_asm.proofs.list_forms.row_at.Goals as goal

pub kept_row-requires-clause-from : goal.kept_row-requires-clause-from
kept_row-requires-clause-from c =
    (kept_askable (map object_of c.args.inputs.now) _ _ _ c.in_ok-gathered.gathered.descriptions.functions (with_kept _ _ _ _ _ _ c.in_ok-gathered.gathered.descriptions.functions c.in_ok-gathered.ensures.gathered c.in_ok-kept.ensures) c.args.pc c.in-Some.func.now
    (found_in _ (contains c.args.pc) _ _ _ _ c.deref.ensures.value c.kept_at.ensures c.in-Some.is)).from

pub kept_row-requires-clause-to : goal.kept_row-requires-clause-to
kept_row-requires-clause-to c =
    (kept_askable (map object_of c.args.inputs.now) _ _ _ c.in_ok-gathered.gathered.descriptions.functions (with_kept _ _ _ _ _ _ c.in_ok-gathered.gathered.descriptions.functions c.in_ok-gathered.ensures.gathered c.in_ok-kept.ensures) c.args.pc c.in-Some.func.now
    (found_in _ (contains c.args.pc) _ _ _ _ c.deref.ensures.value c.kept_at.ensures c.in-Some.is)).to

pub kept_row-requires-clause-end : goal.kept_row-requires-clause-end
kept_row-requires-clause-end c =
    (kept_askable (map object_of c.args.inputs.now) _ _ _ c.in_ok-gathered.gathered.descriptions.functions (with_kept _ _ _ _ _ _ c.in_ok-gathered.gathered.descriptions.functions c.in_ok-gathered.ensures.gathered c.in_ok-kept.ensures) c.args.pc c.in-Some.func.now
    (found_in _ (contains c.args.pc) _ _ _ _ c.deref.ensures.value c.kept_at.ensures c.in-Some.is)).end

pub kept_row-requires-clause-ranges : goal.kept_row-requires-clause-ranges
kept_row-requires-clause-ranges c =
    (kept_askable (map object_of c.args.inputs.now) _ _ _ c.in_ok-gathered.gathered.descriptions.functions (with_kept _ _ _ _ _ _ c.in_ok-gathered.gathered.descriptions.functions c.in_ok-gathered.ensures.gathered c.in_ok-kept.ensures) c.args.pc c.in-Some.func.now
    (found_in _ (contains c.args.pc) _ _ _ _ c.deref.ensures.value c.kept_at.ensures c.in-Some.is)).ranges

pub returns-in-Some : goal.returns-in-Some
returns-in-Some c = if_ok c.kept_row.result _ _
    (λ row says. row_of_kept (map object_of c.args.inputs.now) _ _ _ c.in_ok-gathered.gathered.descriptions.functions (with_kept _ _ _ _ _ _ c.in_ok-gathered.gathered.descriptions.functions c.in_ok-gathered.ensures.gathered c.in_ok-kept.ensures) c.args.pc c.in-Some.func.now
    (found_in _ (contains c.args.pc) _ _ _ _ c.deref.ensures.value c.kept_at.ensures c.in-Some.is) row says)
    c.kept_row.ensures

pub omitted_row-requires-clause-from : goal.omitted_row-requires-clause-from
omitted_row-requires-clause-from c =
    (omitted_within (map object_of c.args.inputs.now) _ _ _ c.in_ok-gathered.gathered.descriptions.functions (with_kept _ _ _ _ _ _ c.in_ok-gathered.gathered.descriptions.functions c.in_ok-gathered.ensures.gathered c.in_ok-kept.ensures) c.args.pc (described_function c.in-Some-omitted_at.description)
    (found_in described_function (holds_address c.args.pc) _ _ _ _ refl c.omitted_at.ensures c.in-Some-omitted_at.is)).from

pub omitted_row-requires-clause-to : goal.omitted_row-requires-clause-to
omitted_row-requires-clause-to c =
    (omitted_within (map object_of c.args.inputs.now) _ _ _ c.in_ok-gathered.gathered.descriptions.functions (with_kept _ _ _ _ _ _ c.in_ok-gathered.gathered.descriptions.functions c.in_ok-gathered.ensures.gathered c.in_ok-kept.ensures) c.args.pc (described_function c.in-Some-omitted_at.description)
    (found_in described_function (holds_address c.args.pc) _ _ _ _ refl c.omitted_at.ensures c.in-Some-omitted_at.is)).to

pub returns-in-Some-omitted_at : goal.returns-in-Some-omitted_at
returns-in-Some-omitted_at c = if_ok c.omitted_row.result _ _
    (λ row says. row_of_omitted (map object_of c.args.inputs.now) _ _ _ c.in_ok-gathered.gathered.descriptions.functions (with_kept _ _ _ _ _ _ c.in_ok-gathered.gathered.descriptions.functions c.in_ok-gathered.ensures.gathered c.in_ok-kept.ensures) c.args.pc (described_function c.in-Some-omitted_at.description)
    (found_in described_function (holds_address c.args.pc) _ _ _ _ refl c.omitted_at.ensures c.in-Some-omitted_at.is) row says)
    c.omitted_row.ensures

pub returns : goal.returns
returns c = no_row (map object_of c.args.inputs.now) _ _ _ c.in_ok-gathered.gathered.descriptions.functions (with_kept _ _ _ _ _ _ c.in_ok-gathered.gathered.descriptions.functions c.in_ok-gathered.ensures.gathered c.in_ok-kept.ensures) c.args.pc
    (none_in _ (contains c.args.pc) _ _ _ c.deref.ensures.value c.kept_at.ensures c.in_default.is)
    (none_in described_function (holds_address c.args.pc) _ _ _ refl c.omitted_at.ensures c.in-None.is)
