-- The checks of a file with its section, by those of where it was.
use Rattle.std.proofs.Common.{◌≡◌, ℕ, List, Option, None, Some, Ok, Err, refl, sym, ap, ◌∙◌}
use Rattle.elf_read.specs.Checking.{◌>>◌}
use Rattle.elf_read.specs.Parsing.{file_check}
use Rattle.sf_modules.specs.declared.fault.ModuleFault.{ModuleFault}
use Rattle.sf_modules.specs.Entry.{EntryView}
use Rattle.sf_modules.specs.Fault.{Check}
use Rattle.sf_modules.specs.File.{first_load, sframe_section}
use Rattle.sf_modules.specs.Match.{matching_entry}
use Rattle.sf_modules.specs.Process.{ProcessView}
use Rattle.sf_modules.specs.Reading.{build_part, elf_fault_part, entry_part, found_part, home_part, kind_part, module_check, nearest_part, place_check, process_part, room_part, section_part, segments_part, table_part}
use Rattle.sf_modules.proofs.Placing.{both_fine}

-- the checks before those of where the file was pass
pub record IsBefore (file : List ℕ) (section : ℕ) : Type 0 where
  pub whole : elf_fault_part (file_check file) ≡ Ok tt
  pub kind : kind_part file ≡ Ok tt
  pub part : section_part file (sframe_section file) ≡ Ok tt
  pub is : sframe_section file ≡ Some section

-- one check after another that passes
after : (a b : Check) → a ≡ Ok tt → (a >> b) ≡ b
after (Ok u) b e = refl
after (Err f) b e = cc

-- with a fault in the first of two, what comes after it doesn't count
stays : (a b : Check) (fault : ModuleFault) → a ≡ Err fault → (a >> b) ≡ Err fault
stays (Ok u) b fault e = cc
stays (Err f) b fault e = e

-- the checks that are left once those before pass
left : (p : ProcessView) (word file : List ℕ) (section : ℕ) → IsBefore file section
    → module_check p word file ≡ (segments_part file >> room_part file >> process_part p word file (first_load file) (Some section))
unfolding module_check
left p word file section h =
    let three : (elf_fault_part (file_check file) >> kind_part file >> section_part file (sframe_section file)) ≡ Ok tt =
    ap (λ (a : Check). a >> section_part file (sframe_section file)) (after (elf_fault_part (file_check file)) (kind_part file) h.whole ∙ h.kind) ∙ h.part in
    ap (λ (a : Check). a >> segments_part file >> room_part file >> process_part p word file (first_load file) (sframe_section file)) three
    ∙ ap (λ (s : Option ℕ). segments_part file >> room_part file >> process_part p word file (first_load file) s) h.is

-- ---- a fault of where the file was
at_home : (p : ProcessView) (file : List ℕ) (load section : ℕ) (o : Option EntryView) (fault : ModuleFault) → home_part p file load o ≡ Err fault → entry_part p file load section o ≡ Err fault
at_home p file load section None fault e = cc
at_home p file load section (Some entry) fault e = stays (build_part p file load entry) (table_part file p.page entry load section) fault e

at_nearest : (p : ProcessView) (file : List ℕ) (load section : ℕ) (near : Check) (o : Option EntryView) (fault : ModuleFault) → (near >> home_part p file load o) ≡ Err fault → (near >> entry_part p file load section o) ≡ Err fault
at_nearest p file load section (Ok u) o fault e = at_home p file load section o fault e
at_nearest p file load section (Err f) o fault e = e

at_load : (p : ProcessView) (word file : List ℕ) (section : ℕ) (load : Option ℕ) (fault : ModuleFault) → found_part p word file load ≡ Err fault → process_part p word file load (Some section) ≡ Err fault
at_load p word file section None fault e = cc
at_load p word file section (Some load) fault e = at_nearest p file load section (nearest_part p word file load) (matching_entry p word file load) fault e

at_headers : (p : ProcessView) (word file : List ℕ) (section : ℕ) (headers : Check) (load : Option ℕ) (fault : ModuleFault) → (headers >> found_part p word file load) ≡ Err fault → (headers >> process_part p word file load (Some section)) ≡ Err fault
at_headers p word file section (Ok u) load fault e = at_load p word file section load fault e
at_headers p word file section (Err f) load fault e = e

pub not_placed : (p : ProcessView) (word file : List ℕ) (section : ℕ) (fault : ModuleFault) → IsBefore file section → place_check p word file ≡ Err fault → module_check p word file ≡ Err fault
unfolding place_check
not_placed p word file section fault h e = left p word file section h ∙ at_headers p word file section (segments_part file >> room_part file) (first_load file) fault e

-- ---- the section of a file that was found
pub placed : (p : ProcessView) (word file : List ℕ) (section load : ℕ) (entry : EntryView) → IsBefore file section → place_check p word file ≡ Ok tt → first_load file ≡ Some load → matching_entry p word file load ≡ Some entry
    → module_check p word file ≡ table_part file p.page entry load section
unfolding place_check
placed p word file section load entry h fine load_is entry_is =
    let headers = both_fine (segments_part file >> room_part file) (found_part p word file (first_load file)) fine in
    let found : (nearest_part p word file load >> home_part p file load (matching_entry p word file load)) ≡ Ok tt = ap (found_part p word file) (sym load_is) ∙ headers.1 in
    let near = both_fine (nearest_part p word file load) (home_part p file load (matching_entry p word file load)) found in
    let build : build_part p file load entry ≡ Ok tt = ap (home_part p file load) (sym entry_is) ∙ near.1 in
    left p word file section h
    ∙ after (segments_part file >> room_part file) (process_part p word file (first_load file) (Some section)) headers.0
    ∙ ap (λ (l : Option ℕ). process_part p word file l (Some section)) load_is
    ∙ after (nearest_part p word file load) (entry_part p file load section (matching_entry p word file load)) near.0
    ∙ ap (entry_part p file load section) entry_is
    ∙ after (build_part p file load entry) (table_part file p.page entry load section) build

-- ---- from what the calls returned
pub are_before : (bytes file : List ℕ) (section : ℕ) → file ≡ bytes → Ok tt ≡ file_check bytes → Ok tt ≡ kind_part file → Ok tt ≡ section_part file (sframe_section file) → sframe_section file ≡ Some section → IsBefore file section
are_before bytes file section same whole kind part is = record { whole = ap (λ (f : List ℕ). elf_fault_part (file_check f)) same ∙ ap elf_fault_part (sym whole); kind = sym kind; part = sym part; is = is }
