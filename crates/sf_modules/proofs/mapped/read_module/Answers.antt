use Rattle.std.proofs.Common.{◌≡◌, ℕ, List, true, Err, refl, sym, ap, subst, ◌∙◌}
use Rattle.std.proofs.lemmas.Result.{err_from_is_err_and}
use Rattle.sf_model.specs.Section.{Section}
use Rattle.sf_decode.specs.Decoding.{section_check}
use Rattle.sf_decode.specs.View.{table_of}
use Rattle.elf_read.specs.Sections.{section_bytes, section_fields}
use Rattle.elf_mapped.specs.Program.{all_bytes, program_bytes}
use Rattle.sf_modules.specs.declared.fault.ModuleFault.{ModuleFault}
use Rattle.sf_modules.specs.Build.{is_same_build}
use Rattle.sf_modules.specs.Fit.{process_address}
use Rattle.sf_modules.specs.Mapped.{MappedView, mapped_view}
use Rattle.sf_modules.specs.Module.{IsModule, ModuleView, loaded_address}
use Rattle.sf_modules.specs.Process.{process_view}
use Rattle.sf_modules.specs.Reading.{decode_part, module_check, place_check}
use Rattle.sf_modules.proofs.Faults.{fails_alike}
use Rattle.sf_modules.proofs.PlacedModules.{are_before, not_placed, placed}
use Rattle.sf_modules.proofs.mapped.read_module.Goals as goal

pub returns-clause-sound : goal.returns-clause-sound
returns-clause-sound c =
    let p = process_view c.args.process.now in
    let word = c.args.word.now in
    let f = program_bytes c.in_ok-elf.elf in
    let section = c.in_ok-section.section in
    let m : MappedView = mapped_view c.in_ok-mapped.mapped in
    let is = c.in_ok-mapped.ensures.value in
    let module_is : ModuleView = record { name = m.entry.name; machine = m.machine; table = table_of c.in_ok-view.view } in
    let at : c.address_of.result ≡ loaded_address f p.page m.entry is.load section = c.address_of.ensures ∙ ap (λ (b : ℕ). process_address b (section_fields f section).sh_addr) is.base_is in
    let table : Section (section_bytes f section) (loaded_address f p.page m.entry is.load section) module_is.table =
    subst (λ (a : ℕ). Section (section_bytes f section) a module_is.table) at (subst (λ (b : List ℕ). Section b c.address_of.result module_is.table) c.sframe_bytes.ensures.bytes c.in_ok-view.ensures.sound) in
    subst (λ (h : List ℕ). IsModule p word h module_is) c.in_ok-elf.ensures.file
    (record {
      section = section;
      load = is.load;
      entry = m.entry;
      section_is = c.in_ok-section.ensures.value;
      load_is = is.load_is;
      named = is.named;
      entry_is = is.entry_is;
      alone = is.alone;
      build = subst (λ (b : ℕ). is_same_build p.core f b ≡ true) is.base_is is.build;
      name_is = refl;
      machine_is = is.machine_is;
      table_is = table;
    })

pub returns-in_err-mapped-clause-exact : goal.returns-in_err-mapped-clause-exact
returns-in_err-mapped-clause-exact c =
    let p = process_view c.args.process.now in
    let word = c.args.word.now in
    let f = program_bytes c.in_ok-elf.elf in
    let section = c.in_ok-section.section in
    let whole = c.in_ok-elf.ensures.file in
    let before = are_before (all_bytes c.args.bytes) f section whole c.in_ok-elf.ensures.exact c.in_ok-check_kind.ensures.check c.in_ok-section.ensures.check c.in_ok-section.ensures.value in
    let fault = err_from_is_err_and c.from_residual-in_err-mapped.result c.from_residual-in_err-mapped.ensures.1 in
    rw (fault.1, fault.2)
    (fails_alike (place_check p word f) (module_check p word (all_bytes c.args.bytes)) c.in_err-mapped.field-0.0
    (λ (own : ModuleFault) (e : place_check p word f ≡ Err own). sym (ap (λ (h : List ℕ). module_check p word h) whole) ∙ not_placed p word f section own before e) c.in_err-mapped.ensures.check)

pub returns-in_err-view-clause-exact : goal.returns-in_err-view-clause-exact
returns-in_err-view-clause-exact c =
    let p = process_view c.args.process.now in
    let word = c.args.word.now in
    let f = program_bytes c.in_ok-elf.elf in
    let section = c.in_ok-section.section in
    let whole = c.in_ok-elf.ensures.file in
    let before = are_before (all_bytes c.args.bytes) f section whole c.in_ok-elf.ensures.exact c.in_ok-check_kind.ensures.check c.in_ok-section.ensures.check c.in_ok-section.ensures.value in
    let m : MappedView = mapped_view c.in_ok-mapped.mapped in
    let is = c.in_ok-mapped.ensures.value in
    let at : c.address_of.result ≡ loaded_address f p.page m.entry is.load section = c.address_of.ensures ∙ ap (λ (b : ℕ). process_address b (section_fields f section).sh_addr) is.base_is in
    let check = c.in_err-view.ensures.exact ∙ ap (λ (b : List ℕ). section_check b c.address_of.result) c.sframe_bytes.ensures.bytes ∙ ap (section_check (section_bytes f section)) at in
    let fault = err_from_is_err_and c.from_residual-in_err-view.result c.from_residual-in_err-view.ensures.1 in
    rw (fault.1, fault.2)
    (sym (ap decode_part check ∙ sym (placed p word f section is.load m.entry before c.in_ok-mapped.ensures.check is.load_is is.entry_is) ∙ ap (λ (h : List ℕ). module_check p word h) whole))

pub returns-clause-exact : goal.returns-clause-exact
returns-clause-exact c =
    let p = process_view c.args.process.now in
    let word = c.args.word.now in
    let f = program_bytes c.in_ok-elf.elf in
    let section = c.in_ok-section.section in
    let whole = c.in_ok-elf.ensures.file in
    let before = are_before (all_bytes c.args.bytes) f section whole c.in_ok-elf.ensures.exact c.in_ok-check_kind.ensures.check c.in_ok-section.ensures.check c.in_ok-section.ensures.value in
    let m : MappedView = mapped_view c.in_ok-mapped.mapped in
    let is = c.in_ok-mapped.ensures.value in
    let at : c.address_of.result ≡ loaded_address f p.page m.entry is.load section = c.address_of.ensures ∙ ap (λ (b : ℕ). process_address b (section_fields f section).sh_addr) is.base_is in
    let check = c.in_ok-view.ensures.exact ∙ ap (λ (b : List ℕ). section_check b c.address_of.result) c.sframe_bytes.ensures.bytes ∙ ap (section_check (section_bytes f section)) at in
    sym (ap decode_part check ∙ sym (placed p word f section is.load m.entry before c.in_ok-mapped.ensures.check is.load_is is.entry_is) ∙ ap (λ (h : List ℕ). module_check p word h) whole)
