-- Walks by the modules of a process come to one thing at most.
use Rattle.std.specs.List.{AllZip}
use Rattle.std.proofs.Common.{◌≡◌, ℕ, List, [], ◌∷◌, Option, Some, None, Result, refl, ap, sym, subst, ◌∙◌}
use Rattle.sf_model.specs.declared.machine.Arch.{Arch}
use Rattle.sf_model.specs.Section.{Section}
use Rattle.sf_model.specs.Table.{Table}
use Rattle.sf_model.proofs.TableSame.{table_same}
use Rattle.elf_read.specs.Header.{arch_of}
use Rattle.elf_read.specs.Sections.{section_bytes}
use Rattle.core_notes.specs.declared.fault.CoreFault.{CoreFault}
use Rattle.sf_modules.specs.declared.fault.ModuleFault.{ModuleFault}
use Rattle.sf_modules.specs.Entry.{EntryView}
use Rattle.sf_modules.specs.Match.{matching_entry}
use Rattle.sf_modules.specs.Module.{ModuleView, loaded_address}
use Rattle.sf_modules.specs.Process.{ProcessView}
use Rattle.sf_modules.specs.Union.{tables_of}
use Rattle.section_commands.specs.Coming.{Coming}
use Rattle.section_commands.specs.Process.{File, ProcessComes}
use Rattle.section_commands.specs.Procwalk.{FilesCome, IsModuleOf, ProcwalkComesIn, coming_of_modules, files_fault, mixed_item, modules_walks, sums_limit}
use Rattle.section_commands.proofs.Processes.{one_process}

-- ---- the modules of files
one_view : (m n : ModuleView) → m.name ≡ n.name → m.machine ≡ n.machine → m.table ≡ n.table → m ≡ n
one_view m n names machines tables =
    ap (λ (name : List ℕ). record { name = name; machine = m.machine; table = m.table }) names
    ∙ ap (λ (machine : Arch). record { name = n.name; machine = machine; table = m.table }) machines
    ∙ ap (λ (table : Table). record { name = n.name; machine = n.machine; table = table }) tables

one_module : (process : ProcessView) (file : File) (m n : ModuleView) → IsModuleOf process file m → IsModuleOf process file n → m ≡ n
one_module process file m n p q =
    let two_sections : Some p.section ≡ Some q.section = sym p.section_is ∙ q.section_is in
    let section : p.section ≡ q.section = cc in
    let two_loads : Some p.load ≡ Some q.load = sym p.load_is ∙ q.load_is in
    let load : p.load ≡ q.load = cc in
    let at_load : matching_entry process file.0 file.1 q.load ≡ Some p.entry = subst (λ (l : ℕ). matching_entry process file.0 file.1 l ≡ Some p.entry) load p.entry_is in
    let two_entries : Some p.entry ≡ Some q.entry = sym at_load ∙ q.entry_is in
    let entry : p.entry ≡ q.entry = cc in
    let page = process.page in
    let at : loaded_address file.1 page p.entry p.load p.section ≡ loaded_address file.1 page q.entry q.load q.section =
    ap (λ (e : EntryView). loaded_address file.1 page e p.load p.section) entry ∙ ap (λ (l : ℕ). loaded_address file.1 page q.entry l p.section) load ∙ ap (loaded_address file.1 page q.entry q.load) section in
    let first = subst (λ (i : ℕ). Section (section_bytes file.1 i) (loaded_address file.1 page p.entry p.load p.section) m.table) section p.table_is in
    let table = table_same _ _ m.table n.table (subst (λ (a : ℕ). Section (section_bytes file.1 q.section) a m.table) at first) q.table_is in
    one_view m n (p.name_is ∙ ap (λ (e : EntryView). e.name) entry ∙ sym q.name_is) (p.machine_is ∙ sym q.machine_is) table

one_list : (process : ProcessView) (files : List File) (ms ns : List ModuleView) → AllZip (IsModuleOf process) files ms → AllZip (IsModuleOf process) files ns → ms ≡ ns
one_list process [] [] [] p q = refl
one_list process [] [] (n ∷ ns) p q = absurd q
one_list process [] (m ∷ ms) ns p q = absurd p
one_list process (f ∷ fs) [] ns p q = absurd p
one_list process (f ∷ fs) (m ∷ ms) [] p q = absurd q
one_list process (f ∷ fs) (m ∷ ms) (n ∷ ns) p q =
    ap (λ (v : ModuleView). v ∷ ms) (one_module process f m n p.0 q.0) ∙ ap (λ (vs : List ModuleView). n ∷ vs) (one_list process fs ms ns p.1 q.1)

-- ---- what they come to
one_from_files : (process : ProcessView) (depth : ℕ) (files : List File) (fault : Option (ℕ × ModuleFault)) (c d : Coming) → FilesCome process depth files fault c → FilesCome process depth files fault d → c ≡ d
one_from_files process depth files (Some fault) c d p q = p ∙ sym q
one_from_files process depth files None c d p q =
    p.is
    ∙ ap (λ (ms : List ModuleView). coming_of_modules (mixed_item (arch_of process.core) ms) (sums_limit (tables_of ms)) (modules_walks process.entries ms process.core depth))
    (one_list process files p.modules q.modules p.are q.are)
    ∙ sym q.is

pub one_procwalk : (core : List ℕ) (depth : ℕ) (files : List File) (check : Result (Unit {0}) CoreFault) (c d : Coming) → ProcessComes core (ProcwalkComesIn depth files) check c → ProcessComes core (ProcwalkComesIn depth files) check d → c ≡ d
one_procwalk core depth files = one_process core (ProcwalkComesIn depth files) (λ p c d. one_from_files p depth files (files_fault p files) c d)
