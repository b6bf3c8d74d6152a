-- Walks through the files of a process come to something, whatever the bytes of the files are.
use Rattle.std.specs.List.{AllZip}
use Rattle.std.proofs.Common.{◌≡◌, ℕ, Bool, true, false, List, [], ◌∷◌, Option, Some, None, Result, Ok, Err, is_some, refl, sym, subst, inl, inr}
use Rattle.sf_write.specs.Section.{table_of}
use Rattle.sf_asm.specs.declared.fault.LinkFault.{LinkFault}
use Rattle.frame_functions.specs.Functions.{Function}
use Rattle.frame_functions.specs.Kept.{omitted_functions}
use Rattle.sf_plt.specs.Linking.{LinksPlts}
use Rattle.sf_plt.specs.Written.{written_functions}
use Rattle.sf_plt.proofs.SomeLinked.{are_linked, some_result}
use Rattle.elf_read.specs.Header.{arch_of}
use Rattle.sf_decode.specs.declared.fault.DecodeFault.TheVariants as decode
use Rattle.sf_merge.specs.Merging.{same_arch}
use Rattle.sf_modules.specs.declared.fault.ModuleFault.{ModuleFault}
use Rattle.sf_modules.specs.declared.fault.ModuleFault.TheVariants as finding
use Rattle.sf_modules.specs.declared.fault.ModuleFault.TheVariants.{Segments}
use Rattle.sf_modules.specs.Entry.{EntryView}
use Rattle.sf_modules.specs.Fault.{Check}
use Rattle.sf_modules.specs.File.{first_load}
use Rattle.sf_modules.specs.Mapped.{IsMapped, MappedView}
use Rattle.sf_modules.specs.Match.{matching_entry}
use Rattle.sf_modules.specs.Module.{file_base}
use Rattle.sf_modules.specs.Process.{ProcessView}
use Rattle.sf_modules.specs.Reading.{found_part, home_part, mapped_check, nearest_part, place_check, room_part}
use Rattle.sf_modules.proofs.Placing.{both_fine, build_fine, nearest_fine, passes}
use Rattle.module_tables.specs.Numbered.{numbered_fault}
use Rattle.module_tables.specs.Table.{file_at}
use Rattle.module_tables.proofs.OneList.{some_signals}
use Rattle.process_tables.specs.Modules.{MappedModule}
use Rattle.section_commands.specs.Coming.{Coming, Exceeded, MakesNoting, Refused}
use Rattle.section_commands.specs.Process.{File, coming_of_module}
use Rattle.section_commands.specs.Walks.{shown_of_mixed}
use Rattle.section_commands.proofs.SomeProcwalk.{no_entry}
use Rattle.sf_run.specs.Procbacktrace.{FileComes, FileOutcome, HasModule, IsUnusable, NumberedFile, Over, Passed, ProcbacktraceComesIn, Used, coming_of_files, coming_of_table, files_named}
use Rattle.sf_run.proofs.Accepted.{Refuses, linking_refuses}
use Rattle.sf_run.proofs.SomePlt.{some_linked_plts}

-- ---- where a file was
by_entry : (p : ProcessView) (word file : List ℕ) (load : ℕ) → first_load file ≡ Some load → nearest_part p word file load ≡ Ok tt → (entry : Option EntryView) → matching_entry p word file load ≡ entry → home_part p file load entry ≡ Ok tt
    → (v : MappedView) × IsMapped p word file v
by_entry p word file load l near None e fine = absurd (no_entry p word file load near e)
by_entry p word file load l near (Some entry) e fine =
    let placed = nearest_fine p word file load entry near e in (
      record { entry = entry; base = file_base file p.page entry load; machine = arch_of file },
      record {
        load = load;
        load_is = l;
        named = placed.named;
        entry_is = e;
        alone = placed.alone;
        base_is = refl;
        build = build_fine p file load entry fine;
        machine_is = refl;
      },
    )

by_load : (p : ProcessView) (word file : List ℕ) (load : Option ℕ) → first_load file ≡ load → is_some load ≡ true → found_part p word file load ≡ Ok tt → (v : MappedView) × IsMapped p word file v
by_load p word file None l some fine = cc
by_load p word file (Some load) l some fine =
    let both = both_fine (nearest_part p word file load) (home_part p file load (matching_entry p word file load)) fine in
    by_entry p word file load l both.0 (matching_entry p word file load) refl both.1

some_mapped : (p : ProcessView) (word file : List ℕ) → mapped_check p word file ≡ Ok tt → (v : MappedView) × IsMapped p word file v
unfolding mapped_check place_check
some_mapped p word file e =
    let place = (both_fine _ (place_check p word file) e).1 in
    let found = both_fine _ (found_part p word file (first_load file)) place in
    let segments = (both_fine _ (room_part file) found.0).0 in
    let load = passes (is_some (first_load file)) (Segments 56) (both_fine _ _ segments).1 in
    by_load p word file (first_load file) refl load found.1

-- ---- one file
-- a fault of where a file was is a refusal, or a limit
finding_refuses : (item : ℕ) (fault : ModuleFault) → Refuses (coming_of_module item fault)
finding_refuses item finding.NoFileNote = tt
finding_refuses item (finding.FileNote place) = tt
finding_refuses item (finding.Elf fault) = tt
finding_refuses item finding.NoSection = tt
finding_refuses item (finding.Segments place) = tt
finding_refuses item finding.NotMapped = tt
finding_refuses item finding.Mapping = tt
finding_refuses item finding.Ambiguous = tt
finding_refuses item finding.Build = tt
finding_refuses item (finding.Unread address) = tt
finding_refuses item finding.NoMemory = tt
finding_refuses item (finding.Section (decode.Short place)) = tt
finding_refuses item (finding.Section (decode.Magic place)) = tt
finding_refuses item (finding.Section (decode.Version place)) = tt
finding_refuses item (finding.Section (decode.Flags place)) = tt
finding_refuses item (finding.Section (decode.Abi place)) = tt
finding_refuses item (finding.Section (decode.FixedOffset place)) = tt
finding_refuses item (finding.Section (decode.Layout place)) = tt
finding_refuses item (finding.Section (decode.Count place)) = tt
finding_refuses item (finding.Section (decode.RowType place)) = tt
finding_refuses item (finding.Section (decode.Reserved place)) = tt
finding_refuses item (finding.Section (decode.RepeatZero place)) = tt
finding_refuses item (finding.Section (decode.OffsetCount place)) = tt
finding_refuses item (finding.Section (decode.OffsetSize place)) = tt
finding_refuses item (finding.Section (decode.RowOrder place)) = tt
finding_refuses item (finding.Section (decode.Unsorted place)) = tt
finding_refuses item (finding.Section (decode.Overlap place)) = tt
finding_refuses item (finding.Section (decode.AddressRange place)) = tt
finding_refuses item (finding.Section (decode.TooManyFunctions place)) = tt
finding_refuses item (finding.Section (decode.TooManyRows place)) = tt

-- a file that can't be used is passed, or exceeds a limit
unused : (p : ProcessView) (item : ℕ) (file : File) (coming : Coming) → Refuses coming → IsUnusable p item file (mapped_check p file.0 file.1) coming → (this : FileOutcome) × FileComes p item file this
unused p item file (Refused shown) refuses h = (Passed record { name = file.0; shown = shown }, (refl, h))
unused p item file (Exceeded limit) refuses h = (Over limit, h)
unused p item file (MakesNoting outcome section text notes) refuses h = absurd refuses

-- a file that has a module is used, or is for another machine
by_machine : (p : ProcessView) (item : ℕ) (file : File) (m : MappedModule) → HasModule p item file m → (same : Bool) → same_arch (arch_of p.core) m.machine ≡ same → (this : FileOutcome) × FileComes p item file this
by_machine p item file m has true e = (Used m, record { has = has; same = e })
by_machine p item file m has false e =
    unused p item file (Refused (shown_of_mixed item)) tt
    (subst (λ (check : Check). IsUnusable p item file check (Refused (shown_of_mixed item))) (sym has.checked) (inr record { made = m; has = has; other = e; is = refl }))

by_linking : (p : ProcessView) (item : ℕ) (file : File) → mapped_check p file.0 file.1 ≡ Ok tt → (v : MappedView) → IsMapped p file.0 file.1 v → (result : Result (List Function) LinkFault) → LinksPlts None (file_at file.1 v.base ∷ []) v.entry.start result
    → (this : FileOutcome) × FileComes p item file this
by_linking p item file fine v is (Err fault) links =
    unused p item file (coming_of_table item fault) (linking_refuses (Some item) (numbered_fault item fault))
    (subst (λ (check : Check). IsUnusable p item file check (coming_of_table item fault)) (sym fine) (inl record { mapped = v; is_mapped = is; fault = fault; links = links; is = refl }))
by_linking p item file fine v is (Ok sorted) links =
    let objects = file_at file.1 v.base ∷ [] in
    let s = some_linked_plts objects v.entry.start sorted (are_linked None objects v.entry.start sorted links) in
    let signals = some_signals (omitted_functions s.linked.sorted) in
    let m : MappedModule = record {
      item = item;
      word = file.0;
      name = v.entry.name;
      base = v.base;
      machine = v.machine;
      functions = s.linked.functions;
      signals = signals.0;
      table = table_of s.linked.arch (written_functions s.linked.sorted);
    } in
    let has : HasModule p item file m = record {
      checked = fine;
      is = record {
        mapped = v;
        is_mapped = is;
        section = s.section;
        is_table = record { kept = s.kept; omitted = s.omitted; plts = s.plts; linked = s.linked; signals_are = signals.1 };
        item_is = refl;
        word_is = refl;
        name_is = refl;
        base_is = refl;
        machine_is = refl;
        functions_are = refl;
        table_is = refl;
      };
    } in
    by_machine p item file m has (same_arch (arch_of p.core) m.machine) refl

some_file : (p : ProcessView) (item : ℕ) (file : File) (check : Check) → mapped_check p file.0 file.1 ≡ check → (this : FileOutcome) × FileComes p item file this
some_file p item file (Err fault) e =
    unused p item file (coming_of_module item fault) (finding_refuses item fault) (subst (λ (check : Check). IsUnusable p item file check (coming_of_module item fault)) (sym e) refl)
some_file p item file (Ok tt) e =
    let v = some_mapped p file.0 file.1 e in
    let result = some_result None (file_at file.1 v.0.base ∷ []) v.0.entry.start in
    by_linking p item file e v.0 v.1 result.0 result.1

-- ---- all files
pub some_files : (p : ProcessView) (files : List NumberedFile) → (outcomes : List FileOutcome) × AllZip (λ (file : NumberedFile). FileComes p file.0 file.1) files outcomes
some_files p [] = ([], tt)
some_files p (file ∷ files) =
    let this = some_file p file.0 file.1 (mapped_check p file.1.0 file.1.1) refl in
    let later = some_files p files in
    (this.0 ∷ later.0, (this.1, later.1))

pub some_in_process : (depth : ℕ) (files : List File) (p : ProcessView) → (coming : Coming) × ProcbacktraceComesIn depth files p coming
some_in_process depth files p =
    let all = some_files p (files_named p 1 files) in
    (coming_of_files p depth all.0, record { outcomes = all.0; come = all.1; is = refl })
