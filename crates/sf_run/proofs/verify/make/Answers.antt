use Rattle.std.proofs.Common.{ℕ, List, None, Ok, codes, refl, ap, map, sym, subst, ◌∙◌}
use Rattle.sf_decode.specs.View.{section_bytes, table_of}
use Rattle.sf_asm.specs.Functions.{Object, object_of}
use Rattle.sf_words.specs.Forms.{section_and_inputs_of}
use Rattle.sf_words.specs.Items.{Section as SectionItem}
use Rattle.sf_verify.specs.Verifying.{IsFirstVerifyFault, Verifies}
use Rattle.sf_words.proofs.WholeFiles.{first_whole}
use Rattle.section_commands.specs.Coming.{Makes}
use Rattle.section_commands.specs.Making.{ComesAs}
use Rattle.sf_run.specs.Verify.{VerifyComes}
use Rattle.sf_run.proofs.Asked.{named_inputs}
use Rattle.sf_run.proofs.Inputs.{CanBeLinked, later_fit, later_of, with_first}
use Rattle.sf_run.proofs.Verified.{undecoded_comes, unverified_comes, verified_comes}
use Rattle.sf_run.proofs.verify.make.Goals as goal

pub bytes-requires : goal.bytes-requires
bytes-requires c = first_whole c.args.loaded.now _ _ c.section-item.result _ c.requires.items c.section-item.is refl

pub inputs_in-requires : goal.inputs_in-requires
inputs_in-requires c =
    let verify = section_and_inputs_of c.args.named.now in
    let h = later_of c.args.loaded.now c.section-item.result (SectionItem verify.section) verify.inputs c.in-len1-up.len_at_least c.section-item.is c.requires.items in
    (verify.inputs, h.items)

pub verify-requires-clause-some : goal.verify-requires-clause-some
verify-requires-clause-some c =
    let verify = section_and_inputs_of c.args.named.now in
    let h = later_of c.args.loaded.now c.section-item.result (SectionItem verify.section) verify.inputs c.in-len1-up.len_at_least c.section-item.is c.requires.items in
    let fits = subst CanBeLinked (sym c.deref.ensures.value) (later_fit None (SectionItem verify.section) c.in_ok-inputs.inputs.items h (c.in_ok-inputs.ensures verify.inputs h.items)
    (named_inputs (codes "verify") c.requires.asked.0 verify c.requires.asked.1) c.requires.within) in
    (fits.some, fits.few)

pub verify-requires-clause-small : goal.verify-requires-clause-small
verify-requires-clause-small c =
    let verify = section_and_inputs_of c.args.named.now in
    let h = later_of c.args.loaded.now c.section-item.result (SectionItem verify.section) verify.inputs c.in-len1-up.len_at_least c.section-item.is c.requires.items in
    let fits = subst CanBeLinked (sym c.deref.ensures.value) (later_fit None (SectionItem verify.section) c.in_ok-inputs.inputs.items h (c.in_ok-inputs.ensures verify.inputs h.items)
    (named_inputs (codes "verify") c.requires.asked.0 verify c.requires.asked.1) c.requires.within) in
    fits.small

pub returns-in-Err : goal.returns-in-Err
returns-in-Err c =
    let verify = section_and_inputs_of c.args.named.now in
    let h = later_of c.args.loaded.now c.section-item.result (SectionItem verify.section) verify.inputs c.in-len1-up.len_at_least c.section-item.is c.requires.items in
    let all = with_first h c.bytes.result.now c.bytes.ensures in
    subst (λ (items : List (List ℕ)). ComesAs (VerifyComes verify items) c.undecoded.result) all
    (undecoded_comes verify.section.at c.bytes.result.now _ c.in-Err.fault c.undecoded.result (sym c.in-Err.ensures.exact) c.undecoded.ensures)

pub returns-in-Ok-verify : goal.returns-in-Ok-verify
returns-in-Ok-verify c =
    let verify = section_and_inputs_of c.args.named.now in
    let h = later_of c.args.loaded.now c.section-item.result (SectionItem verify.section) verify.inputs c.in-len1-up.len_at_least c.section-item.is c.requires.items in
    let all = with_first h c.bytes.result.now c.bytes.ensures in
    let are = ap (map object_of) c.deref.ensures.value ∙ c.in_ok-inputs.ensures verify.inputs h.items in
    let verifies = subst (λ (os : List Object). Verifies (section_bytes c.in-Ok.view) (table_of c.in-Ok.view) os (Ok c.in-Ok-verify.found)) are c.in-Ok-verify.ensures.verdict in
    subst (λ (items : List (List ℕ)). VerifyComes verify items (Makes c.outcome_of.result None c.in_ok-text-in-Ok-verify.text.items)) all
    (verified_comes verify.section.at c.bytes.result.now (section_bytes c.in-Ok.view) _ (table_of c.in-Ok.view) c.in-Ok-verify.found c.outcome_of.result c.in_ok-text-in-Ok-verify.text.items
    c.in-Ok.ensures.bytes (sym c.in-Ok.ensures.exact) c.in-Ok.ensures.sound verifies c.outcome_of.ensures c.in_ok-text-in-Ok-verify.ensures)

pub returns : goal.returns
returns c =
    let verify = section_and_inputs_of c.args.named.now in
    let h = later_of c.args.loaded.now c.section-item.result (SectionItem verify.section) verify.inputs c.in-len1-up.len_at_least c.section-item.is c.requires.items in
    let all = with_first h c.bytes.result.now c.bytes.ensures in
    let are = ap (map object_of) c.deref.ensures.value ∙ c.in_ok-inputs.ensures verify.inputs h.items in
    let first = subst (λ (os : List Object). IsFirstVerifyFault (section_bytes c.in-Ok.view) (table_of c.in-Ok.view) os c.in-Err-verify.fault) are c.in-Err-verify.ensures.fault in
    subst (λ (items : List (List ℕ)). ComesAs (VerifyComes verify items) c.unverified.result) all
    (unverified_comes verify.section.at c.bytes.result.now (section_bytes c.in-Ok.view) _ (table_of c.in-Ok.view) c.in-Err-verify.fault c.unverified.result
    c.in-Ok.ensures.bytes (sym c.in-Ok.ensures.exact) c.in-Ok.ensures.sound first c.unverified.ensures.memory c.unverified.ensures.is)
