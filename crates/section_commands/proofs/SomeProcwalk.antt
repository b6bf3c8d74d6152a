-- Walks by the modules of a process come to something, whatever the bytes of the files are.
use Rattle.std.specs.List.{All, AllZip, zip}
use Rattle.std.proofs.Common.{◌≡◌, ℕ, ◌+◌, Bool, true, false, cond, List, [], ◌∷◌, Option, Some, None, drop, Result, Ok, Err, is_some, refl, ap, sym, ◌∙◌, arith}
use Rattle.std.proofs.lemmas.List.Elements.{All-cons, All-head, All-nil, All-tail}
use Rattle.sf_model.specs.Section.{AreBytes}
use Rattle.sf_decode.specs.declared.fault.DecodeFault.{DecodeFault}
use Rattle.sf_decode.specs.Decoding.{section_check, table_in}
use Rattle.sf_decode.proofs.EntriesRead.{section_stands}
use Rattle.sf_decode.proofs.Standing.{part_are_bytes}
use Rattle.elf_read.specs.Checking.{unless}
use Rattle.elf_read.specs.Header.{arch_of}
use Rattle.elf_read.specs.Number.{window}
use Rattle.elf_read.specs.Sections.{has_bytes, section_bytes, section_fields}
use Rattle.core_notes.specs.declared.fault.CoreFault.{CoreFault}
use Rattle.sf_modules.specs.declared.fault.ModuleFault.{ModuleFault}
use Rattle.sf_modules.specs.declared.fault.ModuleFault.TheVariants.{Mapping, NotMapped, Segments}
use Rattle.sf_modules.specs.Entry.{EntryView}
use Rattle.sf_modules.specs.File.{first_load, sframe_section}
use Rattle.sf_modules.specs.Match.{matching_entry, is_candidate}
use Rattle.sf_modules.specs.Module.{IsModule, ModuleView, loaded_address}
use Rattle.sf_modules.specs.Process.{ProcessView}
use Rattle.sf_modules.specs.Reading.{build_part, decode_part, entry_part, match_part, module_check, nearest_part, process_part, room_part, section_part, segments_part, table_part}
use Rattle.sf_modules.proofs.Placing.{both_fine, build_fine, nearest_fine, passes}
use Rattle.section_commands.specs.Coming.{Coming}
use Rattle.section_commands.specs.FirstFault.{first_failing}
use Rattle.section_commands.specs.Process.{File, ProcessComes, coming_of_module}
use Rattle.section_commands.specs.Procwalk.{FilesCome, IsModuleOf, ProcwalkComesIn, module_file_check as check_of_file, files_fault}
use Rattle.section_commands.proofs.Processes.{some_process}
use Rattle.section_commands.proofs.Reading.{none_here}

-- ---- the module of a file
section_are_bytes : (file : List ℕ) (i : ℕ) → AreBytes file → AreBytes (section_bytes file i)
unfolding section_bytes
section_are_bytes file i are = by_type (has_bytes file i)
  where
    by_type : (has : Bool) → AreBytes (cond has (window (section_fields file i).sh_offset (section_fields file i).sh_size file) [])
    by_type true = part_are_bytes file (section_fields file i).sh_offset (section_fields file i).sh_size are
    by_type false = λ k. omega arith

-- what the checks of a file say
record IsChecked (p : ProcessView) (word file : List ℕ) : Type 0 where
  section : section_part file (sframe_section file) ≡ Ok tt
  load : is_some (first_load file) ≡ true
  process : process_part p word file (first_load file) (sframe_section file) ≡ Ok tt

is_checked : (p : ProcessView) (word file : List ℕ) → module_check p word file ≡ Ok tt → IsChecked p word file
unfolding module_check
is_checked p word file e =
    let process = both_fine _ (process_part p word file (first_load file) (sframe_section file)) e in
    let room = both_fine _ (room_part file) process.0 in
    let segments = both_fine _ (segments_part file) room.0 in
    let section = both_fine _ (section_part file (sframe_section file)) segments.0 in
    record { section = section.1; load = passes (is_some (first_load file)) (Segments 56) (both_fine _ _ segments.1).1; process = process.1 }

is_decoded : (check : Result (Unit {0}) DecodeFault) → decode_part check ≡ Ok tt → check ≡ Ok tt
is_decoded (Ok tt) e = refl
is_decoded (Err fault) e = cc

pub no_entry : (p : ProcessView) (word file : List ℕ) (load : ℕ) → nearest_part p word file load ≡ Ok tt → matching_entry p word file load ≡ None → ⊥
unfolding nearest_part
no_entry p word file load fine e =
    let both = both_fine (unless (is_candidate word p.entries) NotMapped) (match_part p word file load (matching_entry p word file load)) fine in
    let no : Err Mapping ≡ Ok tt = ap (match_part p word file load) (sym e) ∙ both.1 in cc

by_entry : (p : ProcessView) (word file : List ℕ) (section load : ℕ) → AreBytes file → sframe_section file ≡ Some section → first_load file ≡ Some load → nearest_part p word file load ≡ Ok tt → (entry : Option EntryView)
    → matching_entry p word file load ≡ entry → entry_part p file load section entry ≡ Ok tt → (m : ModuleView) × IsModule p word file m
by_entry p word file section load are s l near None e fine = absurd (no_entry p word file load near e)
by_entry p word file section load are s l near (Some entry) e fine =
    let bytes = section_bytes file section in
    let at = loaded_address file p.page entry load section in
    let placed = nearest_fine p word file load entry near e in
    let both = both_fine (build_part p file load entry) (table_part file p.page entry load section) fine in (
      record { name = entry.name; machine = arch_of file; table = table_in bytes at },
      record {
        section = section;
        load = load;
        entry = entry;
        section_is = s;
        load_is = l;
        named = placed.named;
        entry_is = e;
        alone = placed.alone;
        build = build_fine p file load entry both.0;
        name_is = refl;
        machine_is = refl;
        table_is = section_stands bytes at (section_are_bytes file section are) (is_decoded (section_check bytes at) both.1);
      },
    )

by_parts : (p : ProcessView) (word file : List ℕ) → AreBytes file → (section load : Option ℕ) → sframe_section file ≡ section → first_load file ≡ load → section_part file section ≡ Ok tt → is_some load ≡ true
    → process_part p word file load section ≡ Ok tt → (m : ModuleView) × IsModule p word file m
by_parts p word file are None load s l section_fine load_fine fine = cc
by_parts p word file are (Some section) None s l section_fine load_fine fine = cc
by_parts p word file are (Some section) (Some load) s l section_fine load_fine fine =
    let both = both_fine (nearest_part p word file load) (entry_part p file load section (matching_entry p word file load)) fine in
    by_entry p word file section load are s l both.0 (matching_entry p word file load) refl both.1

some_module : (p : ProcessView) (word file : List ℕ) → AreBytes file → module_check p word file ≡ Ok tt → (m : ModuleView) × IsModule p word file m
some_module p word file are e =
    let checked = is_checked p word file e in
    by_parts p word file are (sframe_section file) (first_load file) refl refl checked.section checked.load checked.process

-- ---- the modules of files
abbrev HasBytes : File → Type 0
HasBytes file = AreBytes file.1

pub files_have_bytes : (names items : List (List ℕ)) → All AreBytes items → All HasBytes (zip names items)
files_have_bytes [] items h = All-nil HasBytes
files_have_bytes (name ∷ names) [] h = All-nil HasBytes
files_have_bytes (name ∷ names) (bytes ∷ items) h =
    All-cons HasBytes (name, bytes) (zip names items) (All-head AreBytes bytes items h) (files_have_bytes names items (All-tail AreBytes bytes items h))

-- those behind the first
pub later_bytes : (items : List (List ℕ)) → All AreBytes items → All AreBytes (drop 1 items)
later_bytes [] h = h
later_bytes (first ∷ items) h = All-tail AreBytes first items h

some_modules : (p : ProcessView) (item : ℕ) (files : List File) → All HasBytes files → first_failing (check_of_file p) item files ≡ None
    → (modules : List ModuleView) × AllZip (IsModuleOf p) files modules
unfolding first_failing
some_modules p item [] bytes e = ([], tt)
some_modules p item (file ∷ files) bytes e =
    let here = none_here (check_of_file p file) item (first_failing (check_of_file p) (item + 1) files) e in
    let one = some_module p file.0 file.1 (All-head HasBytes file files bytes) here.0 in
    let later = some_modules p (item + 1) files (All-tail HasBytes file files bytes) here.1 in
    (one.0 ∷ later.0, (one.1, later.1))

-- ---- what they come to
some_from_files : (p : ProcessView) (depth : ℕ) (files : List File) → All HasBytes files → (fault : Option (ℕ × ModuleFault)) → files_fault p files ≡ fault → (coming : Coming) × FilesCome p depth files fault coming
some_from_files p depth files bytes (Some fault) e = (coming_of_module fault.0 fault.1, refl)
some_from_files p depth files bytes None e =
    let modules = some_modules p 1 files bytes e in
    (_, record { modules = modules.0; are = modules.1; is = refl })

pub some_procwalk : (core : List ℕ) (depth : ℕ) (files : List File) → All HasBytes files → (check : Result (Unit {0}) CoreFault) → (coming : Coming) × ProcessComes core (ProcwalkComesIn depth files) check coming
some_procwalk core depth files bytes = some_process core (ProcwalkComesIn depth files) (λ p. some_from_files p depth files bytes (files_fault p files) refl)
