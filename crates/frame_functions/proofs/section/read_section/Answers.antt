use Rattle.std.proofs.Common.{inl, inr}
use Rattle.std.specs.Borrow.{Bor}
use Rattle.std.specs.Option.{option_map}
use Rattle.std.proofs.lemmas.Result.{err_from_is_err_and}
use Rattle.eh_records.specs.View.{entries}
use Rattle.elf_place.specs.declared.placed.Placed.{Placed}
use Rattle.elf_place.specs.Views.{placing}
use Rattle.frame_functions.specs.Views.{relocations_by, seen_section, written_by}
use Rattle.frame_functions.proofs.Patching.{section_over}
use Rattle.frame_functions.proofs.FunctionsOfSection.{records_refused, relocations_refused, pointers_refused}
use Rattle.frame_functions.proofs.section.read_section.Goals as goal

pub returns-in_err-records-clause-exact : goal.returns-in_err-records-clause-exact
returns-in_err-records-clause-exact c =
    let p = err_from_is_err_and c.from_residual.result c.from_residual.ensures.1 in
    let given = relocations_by (option_map (λ (p : Bor Placed). placing p.now) c.args.placed) c.args.section.now.number in
    rw (p.1, p.2) (elim c.in_err-records.ensures.fault [
      | inl wanting ↦ inl wanting
      | inr refused ↦ inr (records_refused c.args.section.now.arch c.args.section.now.item (seen_section c.args.section.now given) c.in_err-records.field-0.0 refused)
    ])

pub returns-in_err-overlay-clause-exact : goal.returns-in_err-overlay-clause-exact
returns-in_err-overlay-clause-exact c =
    let p = err_from_is_err_and c.from_residual-in_err-overlay.result c.from_residual-in_err-overlay.ensures.1 in
    let given = relocations_by (option_map (λ (p : Bor Placed). placing p.now) c.args.placed) c.args.section.now.number in
    rw (p.1, p.2) (elim c.in_err-overlay.ensures.fault [
      | inl wanting ↦ inl wanting
      | inr refused ↦ inr (relocations_refused c.args.section.now.arch c.args.section.now.item (seen_section c.args.section.now given) (entries c.in_ok-records.records) c.in_err-overlay.field-0.0 c.in_ok-records.ensures.whole refused)
    ])

pub returns-in_err-check_overlay-clause-exact : goal.returns-in_err-check_overlay-clause-exact
returns-in_err-check_overlay-clause-exact c =
    let p = err_from_is_err_and c.from_residual-in_err-check_overlay.result c.from_residual-in_err-check_overlay.ensures.1 in
    let given = relocations_by (option_map (λ (p : Bor Placed). placing p.now) c.args.placed) c.args.section.now.number in
    rw (p.1, p.2) (elim c.in_err-check_overlay.ensures.fault [
      | inl wanting ↦ inl wanting
      | inr refused ↦ inr (pointers_refused c.args.section.now.arch c.args.section.now.item (seen_section c.args.section.now given) (entries c.in_ok-records.records) (written_by c.in_ok-overlay.overlay) c.in_err-check_overlay.field-0.0 c.in_ok-records.ensures.whole c.in_ok-overlay.ensures.read refused)
    ])

pub returns-clause-exact : goal.returns-clause-exact
returns-clause-exact c =
    let given = relocations_by (option_map (λ (p : Bor Placed). placing p.now) c.args.placed) c.args.section.now.number in
    rw (section_over c.args.section.now.arch c.args.section.now.item (seen_section c.args.section.now given) (entries c.in_ok-records.records) (option_map (λ (p : Bor Placed). placing p.now) c.args.placed) c.args.section.now.number (written_by c.in_ok-overlay.overlay)
    c.in_ok-records.ensures.whole c.in_ok-overlay.ensures.read c.in_ok-overlay.ensures.from c.in_ok-check_overlay.ensures.lie c.in_ok-check_overlay.ensures.checked)
    (c.read_frames.ensures.exact given)
