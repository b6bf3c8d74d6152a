use Rattle.std.proofs.Common.{◌≡◌, ℕ, List, Some, Result, map, true, refl, ap, sym, subst, ◌∙◌}
use Rattle.sf_model.specs.declared.machine.Arch.{Arch}
use Rattle.sf_model.specs.Section.{Section}
use Rattle.sf_model.specs.Walk.{section_walk}
use Rattle.elf_read.specs.Header.{arch_of}
use Rattle.core_notes.specs.declared.fault.CoreFault.{CoreFault}
use Rattle.core_notes.specs.Checks.{file_threads}
use Rattle.core_notes.specs.Memory.{file_regions}
use Rattle.sf_asm.specs.Answers.{IsFirstLinked, IsLinked}
use Rattle.sf_asm.specs.Functions.{Object, object_of}
use Rattle.core_parts.specs.Loaded.{core_read_bytes}
use Rattle.sf_words.specs.Items.{Core, is_core}
use Rattle.sf_words.specs.Loading.{loaded_bytes}
use Rattle.sf_words.proofs.WholeFiles.{first_tested}
use Rattle.section_commands.specs.declared.made.Outcome.TheVariants.{Done}
use Rattle.section_commands.specs.Coming.{Makes}
use Rattle.section_commands.specs.Making.{ComesAs}
use Rattle.section_commands.specs.Walks.{walks_text}
use Rattle.sf_run.specs.Backtrace.{BacktraceComes, BacktraceComesFrom, backtrace_of, dwarf_walks, section_and_walks}
use Rattle.sf_run.specs.Inputs.{objects_in}
use Rattle.sf_run.specs.Linked.{LinkedComes}
use Rattle.sf_run.proofs.Asked.{backtrace_inputs}
use Rattle.sf_run.proofs.Backtraces.{linked_walks, unlinked_walks, unread_comes}
use Rattle.sf_run.proofs.Inputs.{CanBeLinked, later_fit, later_of, with_first}
use Rattle.sf_run.proofs.LinkedComes.{linked_comes}
use Rattle.sf_run.proofs.backtrace.Backtrace.make.Goals as goal

pub core-requires : goal.core-requires
core-requires c = first_tested is_core true c.args.loaded.now _ _ c.core-item.result _ c.requires.items c.core-item.is refl

pub inputs_in-requires : goal.inputs_in-requires
inputs_in-requires c =
    let backtrace = backtrace_of c.args.self.now in
    let h = later_of c.args.loaded.now c.core-item.result (Core backtrace.core) backtrace.inputs c.in-len1-up.len_at_least c.core-item.is c.requires.items in
    (backtrace.inputs, h.items)

pub link-requires-clause-some : goal.link-requires-clause-some
link-requires-clause-some c =
    let backtrace = backtrace_of c.args.self.now in
    let h = later_of c.args.loaded.now c.core-item.result (Core backtrace.core) backtrace.inputs c.in-len1-up.len_at_least c.core-item.is c.requires.items in
    let fits = subst CanBeLinked (sym c.deref.ensures.value) (later_fit (Some backtrace.out.name) (Core backtrace.core) c.in_ok-inputs.inputs.items h (c.in_ok-inputs.ensures backtrace.inputs h.items)
    (backtrace_inputs c.requires.asked.0 backtrace c.requires.asked.1) c.requires.within) in
    (fits.some, fits.few)

pub link-requires-clause-small : goal.link-requires-clause-small
link-requires-clause-small c =
    let backtrace = backtrace_of c.args.self.now in
    let h = later_of c.args.loaded.now c.core-item.result (Core backtrace.core) backtrace.inputs c.in-len1-up.len_at_least c.core-item.is c.requires.items in
    let fits = subst CanBeLinked (sym c.deref.ensures.value) (later_fit (Some backtrace.out.name) (Core backtrace.core) c.in_ok-inputs.inputs.items h (c.in_ok-inputs.ensures backtrace.inputs h.items)
    (backtrace_inputs c.requires.asked.0 backtrace c.requires.asked.1) c.requires.within) in
    fits.small

pub returns-in-Err-clause-comes : goal.returns-in-Err-clause-comes
returns-in-Err-clause-comes c =
    let backtrace = backtrace_of c.args.self.now in
    let h = later_of c.args.loaded.now c.core-item.result (Core backtrace.core) backtrace.inputs c.in-len1-up.len_at_least c.core-item.is c.requires.items in
    subst (λ (items : List (List ℕ)). ComesAs (BacktraceComes backtrace items) c.unread_core.result) (with_first h (core_read_bytes c.core.result.now) c.core.ensures.bytes)
    (unread_comes _ backtrace.out.at (core_read_bytes c.core.result.now) backtrace.depth c.in-Err.fault c.unread_core.result (sym c.in-Err.ensures.exact) c.unread_core.ensures)

pub returns-in-Ok-link-clause-comes : goal.returns-in-Ok-link-clause-comes
returns-in-Ok-link-clause-comes c =
    let backtrace = backtrace_of c.args.self.now in
    let h = later_of c.args.loaded.now c.core-item.result (Core backtrace.core) backtrace.inputs c.in-len1-up.len_at_least c.core-item.is c.requires.items in
    let objects = objects_in backtrace.inputs (loaded_bytes _) in
    let core = (core_read_bytes c.core.result.now) in
    let at = backtrace.out.at in
    let section = c.in-Ok-link.linked.section.items in
    let kept = c.in-Ok-link.linked.kept in
    let omitted = c.in-Ok-link.linked.omitted.items in
    let arch : c.arch.result ≡ arch_of core = c.arch.ensures ∙ ap arch_of c.in-Ok.ensures.bytes in
    let are = ap (map object_of) c.deref.ensures.value ∙ c.in_ok-inputs.ensures backtrace.inputs h.items in
    let linked = subst (λ (a : Arch). IsLinked (Some a) objects at section kept omitted) arch
    (subst (λ (os : List Object). IsLinked (Some c.arch.result) os at section kept omitted) are c.in-Ok-link.ensures.linked) in
    let table = linked.faithful.table in
    let is = subst (λ (bytes : List ℕ). Section bytes at table) (sym c.deref-in-Ok-link.ensures.value) linked.faithful.is in
    let text : c.in_ok-text-in-Ok-link.text.items ≡ dwarf_walks linked.functions core backtrace.depth =
    c.in_ok-text-in-Ok-link.ensures.text table is
    ∙ ap (λ (file : List ℕ). walks_text (λ thread. section_walk table.functions thread (file_regions file) backtrace.depth) 0 (file_threads file)) c.in-Ok.ensures.bytes
    ∙ linked_walks (arch_of core) objects at section kept omitted linked core backtrace.depth in
    subst (λ (items : List (List ℕ)). BacktraceComes backtrace items (Makes Done (Some section) c.in_ok-text-in-Ok-link.text.items)) (with_first h core c.core.ensures.bytes)
    (subst (λ (check : Result (Unit {0}) CoreFault). BacktraceComesFrom objects at core backtrace.depth check (Makes Done (Some section) c.in_ok-text-in-Ok-link.text.items)) c.in-Ok.ensures.exact
    (subst (λ (t : List ℕ). LinkedComes (Some (arch_of core)) objects at (section_and_walks core backtrace.depth) (Makes Done (Some section) t)) (sym text)
    (linked_comes (Some (arch_of core)) objects at (section_and_walks core backtrace.depth) section kept omitted linked c.in-Ok-link.ensures.are_bytes)))

pub returns-clause-comes : goal.returns-clause-comes
returns-clause-comes c =
    let backtrace = backtrace_of c.args.self.now in
    let h = later_of c.args.loaded.now c.core-item.result (Core backtrace.core) backtrace.inputs c.in-len1-up.len_at_least c.core-item.is c.requires.items in
    let objects = objects_in backtrace.inputs (loaded_bytes _) in
    let core = (core_read_bytes c.core.result.now) in
    let arch : c.arch.result ≡ arch_of core = c.arch.ensures ∙ ap arch_of c.in-Ok.ensures.bytes in
    let are = ap (map object_of) c.deref.ensures.value ∙ c.in_ok-inputs.ensures backtrace.inputs h.items in
    let first = subst (λ (a : Arch). IsFirstLinked (Some a) objects backtrace.out.at c.in-Err-link.fault) arch
    (subst (λ (os : List Object). IsFirstLinked (Some c.arch.result) os backtrace.out.at c.in-Err-link.fault) are c.in-Err-link.ensures.fault) in
    subst (λ (items : List (List ℕ)). ComesAs (BacktraceComes backtrace items) c.unlinked.result) (with_first h core c.core.ensures.bytes)
    (unlinked_walks objects backtrace.out.at core backtrace.depth c.in-Err-link.fault c.unlinked.result (sym c.in-Ok.ensures.exact) first c.unlinked.ensures.memory c.unlinked.ensures.is)
