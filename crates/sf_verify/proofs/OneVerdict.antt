-- Verifying comes to one result.
use Rattle.std.proofs.Common.{◌≡◌, ℕ, ◌<◌, List, map, Option, Some, None, Result, Ok, Err, sym, ap, subst, ◌∙◌, arith, inl, inr}
use Rattle.std.proofs.lemmas.Bool.{cases_lt}
use Rattle.sf_model.specs.declared.content.Content.{Content}
use Rattle.sf_model.specs.declared.function.Func.{Func}
use Rattle.sf_model.specs.declared.verdict.Verdict.{Verdict}
use Rattle.sf_model.specs.declared.verdict.Verdict.TheVariants.{Agrees, Differs}
use Rattle.sf_model.specs.Table.{Table}
use Rattle.sf_functions.proofs.ByStart.{one_order as one_section_order}
use Rattle.sf_merge.specs.declared.located.Located.{Located}
use Rattle.sf_merge.specs.Located.{located_start}
use Rattle.frame_functions.specs.declared.read_function.ReadFunction.{ReadFunction}
use Rattle.sf_asm.specs.declared.fault.GatherFault.{GatherFault}
use Rattle.frame_functions.specs.Functions.{Function}
use Rattle.sf_asm.specs.Functions.{Object}
use Rattle.sf_asm.specs.Inputs.{all_functions}
use Rattle.frame_functions.specs.Kept.{read_of}
use Rattle.sf_asm.specs.Linking.{GathersFrom, functions_fault, unless_fault}
use Rattle.sf_asm.proofs.Described.{described, from_gathers}
use Rattle.sf_asm.proofs.OneOrder.{one_order}
use Rattle.sf_verify.specs.declared.fault.VerifyFault.{VerifyFault}
use Rattle.sf_verify.specs.Agreement.{DifferFirst, IsVerdict, without_key}
use Rattle.frame_functions.specs.ContentAt.{dwarf_at}
use Rattle.sf_verify.specs.SectionContent.{section_at}
use Rattle.sf_verify.specs.Verifying.{Verifies, VerdictUnless, first_verify_fault, section_fault, sized_in}

-- ---- the inputs
gathered_one : (given : Result (List Function) GatherFault) (r r' : Result (List ReadFunction) GatherFault) → GathersFrom given r → GathersFrom given r' → r ≡ r'
gathered_one (Ok functions) r r' (es, order, is) (fs, order', is') =
    is ∙ ap (λ (xs : List ReadFunction). unless_fault (functions_fault xs) xs) (one_order (map read_of functions) es fs order order') ∙ sym is'
gathered_one (Err fault) r r' is is' = is ∙ sym is'

-- ---- the verdict
not_below : (section : List Func) (functions : List Function) (pc pc' : ℕ) (ours ours' : Content) (theirs theirs' : Option Content) → DifferFirst (section_at section) (dwarf_at functions) pc ours theirs → DifferFirst (section_at section) (dwarf_at functions) pc' ours' theirs' → pc < pc' → ⊥
not_below section functions pc pc' ours ours' theirs theirs' p q lt = p.differ (q.before pc lt)

one_address : (section : List Func) (functions : List Function) (pc pc' : ℕ) (ours ours' : Content) (theirs theirs' : Option Content) → DifferFirst (section_at section) (dwarf_at functions) pc ours theirs → DifferFirst (section_at section) (dwarf_at functions) pc' ours' theirs' → pc ≡ pc'
one_address section functions pc pc' ours ours' theirs theirs' p q = elim (cases_lt pc pc') [
  | inl lt ↦ absurd (not_below section functions pc pc' ours ours' theirs theirs' p q lt)
  | inr not_lt ↦ elim (cases_lt pc' pc) [
    | inl gt ↦ absurd (not_below section functions pc' pc ours' ours theirs' theirs q p gt)
    | inr not_gt ↦ omega (arith, not_lt, not_gt)
  ]
]

verdict_one : (section : List Func) (functions : List Function) (v w : Verdict) → IsVerdict section functions v → IsVerdict section functions w → v ≡ w
verdict_one section functions (Agrees checked missing repeats) (Agrees checked' missing' repeats') p q =
    ap (λ (n : ℕ). Agrees n missing repeats) (p.checked_are ∙ sym q.checked_are) ∙ ap (λ (n : ℕ). Agrees checked' n repeats) (p.missing_are ∙ sym q.missing_are) ∙ ap (λ (n : ℕ). Agrees checked' missing' n) (p.repeats_are ∙ sym q.repeats_are)
verdict_one section functions (Agrees checked missing repeats) (Differs pc ours theirs) p q = absurd (q.differ (p.agree pc))
verdict_one section functions (Differs pc ours theirs) (Agrees checked missing repeats) p q = absurd (p.differ (q.agree pc))
verdict_one section functions (Differs pc ours theirs) (Differs pc' ours' theirs') p q =
    let same = one_address section functions pc pc' ours ours' theirs theirs' p q in
    let contents : Some ours ≡ Some ours' = sym p.section_content ∙ ap (λ (n : ℕ). without_key (section_at section n)) same ∙ q.section_content in
    let one : ours ≡ ours' = cc in
    let other : theirs ≡ theirs' = sym p.dwarf_content ∙ ap (λ (n : ℕ). without_key (dwarf_at functions n)) same ∙ q.dwarf_content in
    ap (λ (n : ℕ). Differs n ours theirs) same ∙ ap (λ (c : Content). Differs pc' c theirs) one ∙ ap (λ (o : Option Content). Differs pc' ours' o) other

-- ---- the result
unless_one : (fault : Option VerifyFault) (table : Table) (objects : List Object) (r r' : Result Verdict VerifyFault) → VerdictUnless fault table objects r → VerdictUnless fault table objects r' → r ≡ r'
unless_one (Some fault) table objects r r' p q = p ∙ sym q
unless_one None table objects r r' (functions, are, v, is, e) (functions', are', w, is', e') =
    let both : Ok functions ≡ Ok functions' = sym (described 1 objects (Ok functions) are) ∙ described 1 objects (Ok functions') are' in
    let same : functions ≡ functions' = cc in
    let one = verdict_one table.functions functions' v w (subst (λ (fs : List Function). IsVerdict table.functions fs v) same is) is' in
    e ∙ ap (λ (x : Verdict). Ok x) one ∙ sym e'

pub one_result : (bytes : List ℕ) (table : Table) (objects : List Object) (r r' : Result Verdict VerifyFault) → Verifies bytes table objects r → Verifies bytes table objects r' → r ≡ r'
one_result bytes table objects r r' (inputs, gathers, ordered, order, p) (inputs', gathers', ordered', order', q) =
    let same = gathered_one (all_functions (Some table.arch) objects) inputs inputs' (from_gathers (Some table.arch) objects inputs gathers) (from_gathers (Some table.arch) objects inputs' gathers') in
    let one = one_section_order located_start (sized_in table) ordered ordered' order order' in
    let moved = subst (λ (i : Result (List ReadFunction) GatherFault). VerdictUnless (first_verify_fault i (section_fault bytes ordered)) table objects r) same p in
    unless_one (first_verify_fault inputs' (section_fault bytes ordered')) table objects r r' (subst (λ (ls : List Located). VerdictUnless (first_verify_fault inputs' (section_fault bytes ls)) table objects r) one moved) q
