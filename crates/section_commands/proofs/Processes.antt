-- What a command comes to that is given a core file and files that its process had mapped: one thing, if it is one thing in each process.
use Rattle.std.proofs.Common.{◌≡◌, ℕ, ◌⊎◌, inl, inr, true, List, Option, Some, None, Result, Ok, Err, refl, ap, sym, subst, ◌∙◌}
use Rattle.sf_bytes.specs.Cursor.{Cursor}
use Rattle.core_notes.specs.declared.fault.CoreFault.{CoreFault}
use Rattle.core_notes.specs.Checks.{core_check}
use Rattle.elf_read.specs.Checking.{each_below}
use Rattle.sf_modules.specs.declared.fault.ModuleFault.{ModuleFault}
use Rattle.sf_modules.specs.declared.fault.ModuleFault.TheVariants.{NoFileNote, FileNote, Elf, NoSection, Segments, NotMapped, Mapping, Ambiguous, Build, Section, Unread, NoMemory}
use Rattle.sf_modules.specs.Entry.{EntryView}
use Rattle.sf_modules.specs.Fault.{Check, IsFaultOf, module_refusal}
use Rattle.sf_modules.specs.Note.{HasEntries, numbered_entries, file_entries_check, file_entry_check, file_entry_count, file_header_check, file_note_check, has_file_names, names_part, page_size}
use Rattle.sf_modules.specs.Process.{ProcessView, process_of}
use Rattle.sf_modules.proofs.NamesRead.{names_exist, names_unique}
use Rattle.sf_modules.proofs.Placing.{both_fine, passes}
use Rattle.section_commands.specs.declared.made.Unmade.{Unmade}
use Rattle.section_commands.specs.Coming.{Coming}
use Rattle.section_commands.specs.Making.{IsUnfinished, UnmadeAs}
use Rattle.section_commands.specs.Process.{EntriesCome, IsFinalFault, NoteComes, ProcessComes, coming_of_module, file_note}
use Rattle.section_commands.specs.Walks.{coming_of_core}
use Rattle.section_commands.proofs.Making.{unfinished_as, unmade_as}

-- ---- one thing
one_note : (note : Option Cursor) (p q : ℕ) (es fs : List EntryView) → HasEntries note p es → HasEntries note q fs → (p ≡ q) × (es ≡ fs)
one_note None p q es fs h i = absurd h
one_note (Some note) p q es fs h i =
    let names : h.names ≡ i.names = names_unique (file_entry_count note.left) (names_part note.left) h.names i.names h.names_are i.names_are in
    (h.size ∙ sym i.size, h.are ∙ ap (numbered_entries note.left 0) names ∙ sym i.are)

one_from_entries : (core : List ℕ) (Come : ProcessView → Coming → Type 0) → ((p : ProcessView) (c d : Coming) → Come p c → Come p d → c ≡ d) → (c d : Coming) → EntriesCome core Come c → EntriesCome core Come d → c ≡ d
one_from_entries core Come one c d p q =
    let same = one_note (file_note core) p.page q.page p.entries q.entries p.are q.are in
    let is : process_of core p.page p.entries ≡ process_of core q.page q.entries =
    ap (λ (page : ℕ). process_of core page p.entries) same.0 ∙ ap (process_of core q.page) same.1 in
    one (process_of core q.page q.entries) c d (subst (λ (process : ProcessView). Come process c) is p.comes) q.comes

one_from_note : (core : List ℕ) (Come : ProcessView → Coming → Type 0) → ((p : ProcessView) (c d : Coming) → Come p c → Come p d → c ≡ d) → (check : Check) (c d : Coming) → NoteComes core Come check c → NoteComes core Come check d → c ≡ d
one_from_note core Come one (Err fault) c d p q = p ∙ sym q
one_from_note core Come one (Ok u) c d p q = one_from_entries core Come one c d p q

pub one_process : (core : List ℕ) (Come : ProcessView → Coming → Type 0) → ((p : ProcessView) (c d : Coming) → Come p c → Come p d → c ≡ d) → (check : Result (Unit {0}) CoreFault) (c d : Coming) → ProcessComes core Come check c → ProcessComes core Come check d → c ≡ d
one_process core Come one (Err fault) c d p q = p ∙ sym q
one_process core Come one (Ok u) c d p q = one_from_note core Come one (file_entries_check (file_note core)) c d p q

-- ---- something
has_names : (note : Cursor) → file_note_check note ≡ Ok tt → has_file_names (file_entry_count note.left) (names_part note.left) ≡ true
unfolding file_note_check file_header_check
has_names note e =
    let header = both_fine _ (each_below (file_entry_count note.left) (file_entry_check note)) e in
    let named = both_fine _ _ header.0 in
    passes _ (FileNote note.place) (both_fine _ _ named.0).1

some_entries : (note : Option Cursor) → file_entries_check note ≡ Ok tt → (page : ℕ) × (entries : List EntryView) × HasEntries note page entries
some_entries None e = cc
some_entries (Some note) e =
    let names = names_exist (file_entry_count note.left) (names_part note.left) (has_names note e) in
    (page_size note.left, numbered_entries note.left 0 names.0, record { size = refl; names = names.0; names_are = names.1; are = refl })

some_from_note : (core : List ℕ) (Come : ProcessView → Coming → Type 0) → ((p : ProcessView) → (coming : Coming) × Come p coming) → (check : Check) → file_entries_check (file_note core) ≡ check → (coming : Coming) × NoteComes core Come check coming
some_from_note core Come some (Err fault) e = (coming_of_module 0 fault, refl)
some_from_note core Come some (Ok tt) e =
    let found = some_entries (file_note core) e in
    let comes = some (process_of core found.0 found.1) in
    (comes.0, record { page = found.0; entries = found.1; are = found.2; comes = comes.1 })

pub some_process : (core : List ℕ) (Come : ProcessView → Coming → Type 0) → ((p : ProcessView) → (coming : Coming) × Come p coming) → (check : Result (Unit {0}) CoreFault) → (coming : Coming) × ProcessComes core Come check coming
some_process core Come some (Err fault) = (coming_of_core 0 fault, refl)
some_process core Come some (Ok u) = some_from_note core Come some (file_entries_check (file_note core)) refl

-- ---- what is made
pub fault_found : (check : Check) (fault : ModuleFault) → IsFaultOf check fault → (module_refusal fault ≡ None) ⊎ (check ≡ Err fault)
fault_found check NoMemory h = inl refl
fault_found check (Unread address) h = inl refl
fault_found check NoFileNote h = inr h
fault_found check (FileNote place) h = inr h
fault_found check (Elf fault) h = inr h
fault_found check NoSection h = inr h
fault_found check (Segments place) h = inr h
fault_found check NotMapped h = inr h
fault_found check Mapping h = inr h
fault_found check Ambiguous h = inr h
fault_found check Build h = inr h
fault_found check (Section fault) h = inr h

pub is_final_fault : (fault : ModuleFault) → ((address : ℕ) → fault ≡ Unread address → ⊥) → IsFinalFault fault
is_final_fault NoMemory h = tt
is_final_fault (Unread address) h = h address refl
is_final_fault NoFileNote h = tt
is_final_fault (FileNote place) h = tt
is_final_fault (Elf fault) h = tt
is_final_fault NoSection h = tt
is_final_fault (Segments place) h = tt
is_final_fault NotMapped h = tt
is_final_fault Mapping h = tt
is_final_fault Ambiguous h = tt
is_final_fault Build h = tt
is_final_fault (Section fault) h = tt

-- a core file and its note have no fault
pub record AreRead (core : List ℕ) (page : ℕ) (entries : List EntryView) : Type 0 where
  pub core_fine : core_check core ≡ Ok tt
  pub note_fine : file_entries_check (file_note core) ≡ Ok tt
  pub are : HasEntries (file_note core) page entries

pub from_process : (core : List ℕ) (page : ℕ) (entries : List EntryView) (Come : ProcessView → Coming → Type 0) (coming : Coming) → AreRead core page entries → Come (process_of core page entries) coming → ProcessComes core Come (core_check core) coming
from_process core page entries Come coming read h =
    subst (λ (check : Result (Unit {0}) CoreFault). ProcessComes core Come check coming) (sym read.core_fine)
    (subst (λ (check : Check). NoteComes core Come check coming) (sym read.note_fine) record { page = page; entries = entries; are = read.are; comes = h })

-- the note is refused, or memory ran out
pub note_unread : (core : List ℕ) (Come : ProcessView → Coming → Type 0) (fault : ModuleFault) (unmade : Unmade) → core_check core ≡ Ok tt → IsFaultOf (file_entries_check (file_note core)) fault
    → (module_refusal fault ≡ None → IsUnfinished true unmade) → UnmadeAs (λ (c : Coming). c ≡ coming_of_module 0 fault) unmade → UnmadeAs (ProcessComes core Come (core_check core)) unmade
note_unread core Come fault unmade fine found unfinished tells = by_cause (fault_found (file_entries_check (file_note core)) fault found)
  where
    by_cause : (module_refusal fault ≡ None) ⊎ (file_entries_check (file_note core) ≡ Err fault) → UnmadeAs (ProcessComes core Come (core_check core)) unmade
    by_cause (inl none) = unfinished_as (ProcessComes core Come (core_check core)) true unmade (unfinished none)
    by_cause (inr first) =
        unmade_as (λ (c : Coming). c ≡ coming_of_module 0 fault) (ProcessComes core Come (core_check core))
        (λ c e. subst (λ (check : Result (Unit {0}) CoreFault). ProcessComes core Come check c) (sym fine) (subst (λ (check : Check). NoteComes core Come check c) (sym first) e)) unmade tells
