-- Walks through the files of a process come to one thing at most.
use Rattle.std.specs.List.{AllZip}
use Rattle.std.proofs.Common.{◌≡◌, ◌⊎◌, ℕ, true, false, List, [], ◌∷◌, Some, None, Result, Ok, Err, refl, ap, sym, subst, ◌∙◌, inl, inr, arith}
use Rattle.sf_model.specs.declared.machine.Arch.{Arch}
use Rattle.sf_model.specs.FaultShown.{FaultShown}
use Rattle.elf_read.specs.Header.{arch_of}
use Rattle.sf_merge.specs.Merging.{same_arch}
use Rattle.sf_model.specs.Table.{Table}
use Rattle.sf_write.specs.Section.{table_of}
use Rattle.sf_lookup.specs.declared.span.Span.{Span}
use Rattle.sf_asm.specs.declared.fault.LinkFault.{LinkFault}
use Rattle.sf_asm.specs.Described.{Describe}
use Rattle.frame_functions.specs.Functions.{Function}
use Rattle.sf_asm.specs.Functions.{Object}
use Rattle.sf_asm.specs.Inputs.{HaveMachine}
use Rattle.frame_functions.specs.Kept.{omitted_functions}
use Rattle.frame_functions.specs.Descriptions.{AreByStart}
use Rattle.sf_asm.proofs.Described.{described}
use Rattle.sf_plt.specs.Linking.{LinksPlts}
use Rattle.sf_plt.specs.Written.{written_functions}
use Rattle.sf_plt.proofs.Faults.{one_sorted, one_result}
use Rattle.sf_modules.specs.Entry.{EntryView}
use Rattle.sf_modules.specs.Fault.{Check}
use Rattle.sf_modules.specs.Mapped.{IsMapped, MappedView}
use Rattle.sf_modules.specs.Match.{matching_entry}
use Rattle.sf_modules.specs.Module.{file_base}
use Rattle.sf_modules.specs.Process.{ProcessView}
use Rattle.sf_modules.specs.Reading.{mapped_check}
use Rattle.signal_frames.specs.declared.frame.SignalFrame.{SignalFrame}
use Rattle.module_tables.specs.Signals.{AreSignals}
use Rattle.module_tables.specs.Table.{IsModuleTable, file_at}
use Rattle.module_tables.proofs.OneList.{one_signals}
use Rattle.process_tables.specs.Modules.{IsMappedModule, MappedModule}
use Rattle.sf_text.specs.Passed.{PassedView}
use Rattle.sf_words.specs.declared.refusal.Limit.{Limit}
use Rattle.section_commands.specs.Coming.{Coming, Exceeded, Refused}
use Rattle.section_commands.specs.Process.{File}
use Rattle.sf_run.specs.Procbacktrace.{FileComes, FileOutcome, HasModule, IsForAnother, IsUnlinked, IsUnusable, IsUsed, NumberedFile, Over, Passed, ProcbacktraceComesIn, Used, coming_of_files, coming_of_table, files_named}
use Rattle.sf_run.proofs.LinkedComes.{plt_links_of}
use Rattle.sf_run.proofs.OneLinked.{one_machine}

-- ---- where a file was
view_alike : (v w : MappedView) → v.entry ≡ w.entry → v.base ≡ w.base → v.machine ≡ w.machine → v ≡ w
view_alike v w entries bases machines =
    ap (λ (e : EntryView). let x : MappedView = record { entry = e; base = v.base; machine = v.machine } in x) entries
    ∙ ap (λ (b : ℕ). let x : MappedView = record { entry = w.entry; base = b; machine = v.machine } in x) bases
    ∙ ap (λ (m : Arch). let x : MappedView = record { entry = w.entry; base = w.base; machine = m } in x) machines

one_mapped : (p : ProcessView) (word file : List ℕ) (v w : MappedView) → IsMapped p word file v → IsMapped p word file w → v ≡ w
one_mapped p word file v w x y =
    let two_loads : Some x.load ≡ Some y.load = sym x.load_is ∙ y.load_is in
    let load : x.load ≡ y.load = cc in
    let at_load : matching_entry p word file y.load ≡ Some v.entry = subst (λ (l : ℕ). matching_entry p word file l ≡ Some v.entry) load x.entry_is in
    let two_entries : Some v.entry ≡ Some w.entry = sym at_load ∙ y.entry_is in
    let entry : v.entry ≡ w.entry = cc in
    let base = x.base_is ∙ ap (λ (e : EntryView). file_base file p.page e x.load) entry ∙ ap (file_base file p.page w.entry) load ∙ sym y.base_is in
    view_alike v w entry base (x.machine_is ∙ sym y.machine_is)

-- ---- the table of a file
record SameTable (functions others : List Function) (table other : Table) (signals those : List (Span SignalFrame)) : Type 0 where
  functions_are : functions ≡ others
  table_is : table ≡ other
  signals_are : signals ≡ those

one_table : (file : List ℕ) (v w : MappedView) → v ≡ w → (s t : List ℕ) (signals those : List (Span SignalFrame)) → (x : IsModuleTable file v.base v.entry.start s signals) → (y : IsModuleTable file w.base w.entry.start t those)
    → SameTable x.linked.functions y.linked.functions (table_of x.linked.arch (written_functions x.linked.sorted)) (table_of y.linked.arch (written_functions y.linked.sorted)) signals those
one_table file v w same s t signals those x y =
    let objects : List Object = file_at file w.base ∷ [] in
    let described_at : Describe 0 objects (Ok x.linked.functions) = subst (λ (u : MappedView). Describe 0 (file_at file u.base ∷ []) (Ok x.linked.functions)) same x.linked.are in
    let machine : HaveMachine None objects x.linked.arch = subst (λ (u : MappedView). HaveMachine None (file_at file u.base ∷ []) x.linked.arch) same x.linked.machine in
    let both : Ok x.linked.functions ≡ Ok y.linked.functions = sym (described 0 objects (Ok x.linked.functions) described_at) ∙ described 0 objects (Ok y.linked.functions) y.linked.are in
    let functions : x.linked.functions ≡ y.linked.functions = cc in
    let sorted : x.linked.sorted ≡ y.linked.sorted = one_sorted y.linked.functions x.linked.sorted y.linked.sorted (subst (λ (fs : List Function). AreByStart fs x.linked.sorted) functions x.linked.by_start) y.linked.by_start in
    let arch = one_machine None objects (omega arith) x.linked.arch y.linked.arch machine y.linked.machine in
    record {
      functions_are = functions;
      table_is = ap (λ (a : Arch). table_of a (written_functions x.linked.sorted)) arch ∙ ap (λ (fs : List Function). table_of y.linked.arch (written_functions fs)) sorted;
      signals_are = one_signals (omitted_functions y.linked.sorted) signals those (subst (λ (fs : List Function). AreSignals (omitted_functions fs) signals) sorted x.signals_are) y.signals_are;
    }

-- ---- one file
module_alike : (m n : MappedModule) → m.item ≡ n.item → m.word ≡ n.word → m.name ≡ n.name → m.base ≡ n.base → m.machine ≡ n.machine → m.functions ≡ n.functions → m.signals ≡ n.signals → m.table ≡ n.table → m ≡ n
module_alike m n a b c d e f g h =
    ap (λ (x : ℕ). let y : MappedModule = record { item = x; word = m.word; name = m.name; base = m.base; machine = m.machine; functions = m.functions; signals = m.signals; table = m.table } in y) a
    ∙ ap (λ (x : List ℕ). let y : MappedModule = record { item = n.item; word = x; name = m.name; base = m.base; machine = m.machine; functions = m.functions; signals = m.signals; table = m.table } in y) b
    ∙ ap (λ (x : List ℕ). let y : MappedModule = record { item = n.item; word = n.word; name = x; base = m.base; machine = m.machine; functions = m.functions; signals = m.signals; table = m.table } in y) c
    ∙ ap (λ (x : ℕ). let y : MappedModule = record { item = n.item; word = n.word; name = n.name; base = x; machine = m.machine; functions = m.functions; signals = m.signals; table = m.table } in y) d
    ∙ ap (λ (x : Arch). let y : MappedModule = record { item = n.item; word = n.word; name = n.name; base = n.base; machine = x; functions = m.functions; signals = m.signals; table = m.table } in y) e
    ∙ ap (λ (x : List Function). let y : MappedModule = record { item = n.item; word = n.word; name = n.name; base = n.base; machine = n.machine; functions = x; signals = m.signals; table = m.table } in y) f
    ∙ ap (λ (x : List (Span SignalFrame)). let y : MappedModule = record { item = n.item; word = n.word; name = n.name; base = n.base; machine = n.machine; functions = n.functions; signals = x; table = m.table } in y) g
    ∙ ap (λ (x : Table). let y : MappedModule = record { item = n.item; word = n.word; name = n.name; base = n.base; machine = n.machine; functions = n.functions; signals = n.signals; table = x } in y) h

one_module : (p : ProcessView) (item : ℕ) (word file : List ℕ) (m n : MappedModule) → IsMappedModule p item word file m → IsMappedModule p item word file n → m ≡ n
one_module p item word file m n x y =
    let mapped = one_mapped p word file x.mapped y.mapped x.is_mapped y.is_mapped in
    let same = one_table file x.mapped y.mapped mapped x.section y.section m.signals n.signals x.is_table y.is_table in
    module_alike m n (x.item_is ∙ sym y.item_is) (x.word_is ∙ sym y.word_is) (x.name_is ∙ ap (λ (v : MappedView). v.entry.name) mapped ∙ sym y.name_is)
    (x.base_is ∙ ap (λ (v : MappedView). v.base) mapped ∙ sym y.base_is) (x.machine_is ∙ ap (λ (v : MappedView). v.machine) mapped ∙ sym y.machine_is)
    (x.functions_are ∙ same.functions_are ∙ sym y.functions_are) same.signals_are (x.table_is ∙ same.table_is ∙ sym y.table_is)

-- what links a file where it was, links it there
links_at : (file : List ℕ) (v w : MappedView) (result : Result (List Function) LinkFault) → v ≡ w → LinksPlts None (file_at file v.base ∷ []) v.entry.start result → LinksPlts None (file_at file w.base ∷ []) w.entry.start result
links_at file v w result same = subst (λ (u : MappedView). LinksPlts None (file_at file u.base ∷ []) u.entry.start result) same

-- a file that is linked has no fault of linking
not_unlinked : (p : ProcessView) (item : ℕ) (file : File) (m : MappedModule) (coming : Coming) → HasModule p item file m → IsUnlinked p item file coming → ⊥
not_unlinked p item file m coming x y =
    let mapped = one_mapped p file.0 file.1 x.is.mapped y.mapped x.is.is_mapped y.is_mapped in
    let t = x.is.is_table in
    let made = links_at file.1 x.is.mapped y.mapped (Ok t.linked.sorted) mapped (plt_links_of (file_at file.1 x.is.mapped.base ∷ []) x.is.mapped.entry.start x.is.section t.kept t.omitted t.plts t.linked) in
    let no : Ok t.linked.sorted ≡ Err y.fault = one_result None (file_at file.1 y.mapped.base ∷ []) y.mapped.entry.start (Ok t.linked.sorted) (Err y.fault) made y.links in cc

-- a file that is used can be used
not_unusable : (p : ProcessView) (item : ℕ) (file : File) (m : MappedModule) (coming : Coming) → IsUsed p item file m → IsUnusable p item file (mapped_check p file.0 file.1) coming → ⊥
not_unusable p item file m coming x unusable = by_kind (subst (λ (check : Check). IsUnusable p item file check coming) x.has.checked unusable)
  where
    by_kind : IsUnlinked p item file coming ⊎ IsForAnother p item file coming → ⊥
    by_kind (inl y) = not_unlinked p item file m coming x.has y
    by_kind (inr y) =
        let same = one_module p item file.0 file.1 m y.made x.has.is y.has.is in
        let no : true ≡ false = sym x.same ∙ ap (λ (n : MappedModule). same_arch (arch_of p.core) n.machine) same ∙ y.other in cc

one_unusable : (p : ProcessView) (item : ℕ) (file : File) (check : Check) (c d : Coming) → IsUnusable p item file check c → IsUnusable p item file check d → c ≡ d
one_unusable p item file (Err fault) c d x y = x ∙ sym y
one_unusable p item file (Ok u) c d (inl x) (inl y) =
    let mapped = one_mapped p file.0 file.1 x.mapped y.mapped x.is_mapped y.is_mapped in
    let both : Err x.fault ≡ Err y.fault = one_result None (file_at file.1 y.mapped.base ∷ []) y.mapped.entry.start (Err x.fault) (Err y.fault) (links_at file.1 x.mapped y.mapped (Err x.fault) mapped x.links) y.links in
    let fault : x.fault ≡ y.fault = cc in
    x.is ∙ ap (coming_of_table item) fault ∙ sym y.is
one_unusable p item file (Ok u) c d (inl x) (inr y) = absurd (not_unlinked p item file y.made c y.has x)
one_unusable p item file (Ok u) c d (inr x) (inl y) = absurd (not_unlinked p item file x.made d x.has y)
one_unusable p item file (Ok u) c d (inr x) (inr y) = x.is ∙ sym y.is

passed_alike : (q r : PassedView) → q.name ≡ r.name → q.shown ≡ r.shown → q ≡ r
passed_alike q r names shown =
    ap (λ (n : List ℕ). let x : PassedView = record { name = n; shown = q.shown } in x) names
    ∙ ap (λ (s : FaultShown). let x : PassedView = record { name = r.name; shown = s } in x) shown

one_file : (p : ProcessView) (item : ℕ) (file : File) (a b : FileOutcome) → FileComes p item file a → FileComes p item file b → a ≡ b
one_file p item file (Used m) (Used n) x y = ap (λ (k : MappedModule). Used k) (one_module p item file.0 file.1 m n x.has.is y.has.is)
one_file p item file (Used m) (Passed r) x y = absurd (not_unusable p item file m (Refused r.shown) x y.1)
one_file p item file (Used m) (Over k) x y = absurd (not_unusable p item file m (Exceeded k) x y)
one_file p item file (Passed q) (Used n) x y = absurd (not_unusable p item file n (Refused q.shown) y x.1)
one_file p item file (Passed q) (Passed r) x y =
    let both : Refused q.shown ≡ Refused r.shown = one_unusable p item file (mapped_check p file.0 file.1) (Refused q.shown) (Refused r.shown) x.1 y.1 in
    let shown : q.shown ≡ r.shown = cc in
    ap (λ (k : PassedView). Passed k) (passed_alike q r (x.0 ∙ sym y.0) shown)
one_file p item file (Passed q) (Over k) x y = absurd (let no : Refused q.shown ≡ Exceeded k = one_unusable p item file (mapped_check p file.0 file.1) (Refused q.shown) (Exceeded k) x.1 y in cc)
one_file p item file (Over l) (Used n) x y = absurd (not_unusable p item file n (Exceeded l) y x)
one_file p item file (Over l) (Passed r) x y = absurd (let no : Exceeded l ≡ Refused r.shown = one_unusable p item file (mapped_check p file.0 file.1) (Exceeded l) (Refused r.shown) x y.1 in cc)
one_file p item file (Over l) (Over k) x y =
    let both : Exceeded l ≡ Exceeded k = one_unusable p item file (mapped_check p file.0 file.1) (Exceeded l) (Exceeded k) x y in
    let limit : l ≡ k = cc in
    ap (λ (n : Limit). Over n) limit

-- ---- all files
one_of_each : (p : ProcessView) (files : List NumberedFile) (cs ds : List FileOutcome) → AllZip (λ (file : NumberedFile). FileComes p file.0 file.1) files cs → AllZip (λ (file : NumberedFile). FileComes p file.0 file.1) files ds → cs ≡ ds
one_of_each p [] [] [] x y = refl
one_of_each p [] [] (d ∷ ds) x y = absurd y
one_of_each p [] (c ∷ cs) ds x y = absurd x
one_of_each p (file ∷ files) [] ds x y = absurd x
one_of_each p (file ∷ files) (c ∷ cs) [] x y = absurd y
one_of_each p (file ∷ files) (c ∷ cs) (d ∷ ds) x y =
    ap (λ (o : FileOutcome). o ∷ cs) (one_file p file.0 file.1 c d x.0 y.0) ∙ ap (λ (os : List FileOutcome). d ∷ os) (one_of_each p files cs ds x.1 y.1)

pub one_in_process : (depth : ℕ) (files : List File) (p : ProcessView) (c d : Coming) → ProcbacktraceComesIn depth files p c → ProcbacktraceComesIn depth files p d → c ≡ d
one_in_process depth files p c d x y = x.is ∙ ap (coming_of_files p depth) (one_of_each p (files_named p 1 files) x.outcomes y.outcomes x.come y.come) ∙ sym y.is
