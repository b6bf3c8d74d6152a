-- Mapped files with their bytes, one after the other, and what their modules come to.
use Rattle.std.specs.List.{All, AllZip, position, position_or_len, zip}
use Rattle.std.specs.Prelude.{nat_lt}
use Rattle.std.proofs.Common.{◌≡◌, ℕ, ◌+◌, ◌<◌, ◌^◌, Bool, true, not, cond, List, [], ◌∷◌, map, length, drop, Option, Some, None, Result, Ok, Err, refl, ap, sym, subst, ◌∙◌, ◌⊎◌, inl, inr, arith}
use Rattle.std.proofs.lemmas.List.{length-map}
use Rattle.std.proofs.lemmas.List.Elements.{All-nil, All-cons}
use Rattle.elf_read.specs.Header.{arch_of}
use Rattle.core_notes.specs.Checks.{core_check}
use Rattle.sf_modules.specs.declared.fault.ModuleFault.{ModuleFault}
use Rattle.sf_modules.specs.Entry.{EntryView}
use Rattle.sf_modules.specs.Fault.{IsFaultOf, module_refusal}
use Rattle.sf_modules.specs.Module.{ModuleView}
use Rattle.sf_modules.specs.Note.{HasEntries, file_entries_check}
use Rattle.sf_modules.specs.Process.{ProcessView, process_of}
use Rattle.sf_modules.specs.Union.{tables_of}
use Rattle.sf_words.specs.ItemRead.{read_bytes}
use Rattle.sf_words.specs.declared.loaded.Loaded.{Loaded}
use Rattle.sf_words.specs.Loading.{bytes_limit, items_limit, loaded_bytes, loaded_items}
use Rattle.sf_words.proofs.Loads.{goes_on, within_both}
use Rattle.sf_words.specs.Items.{Core, Mapped}
use Rattle.section_commands.specs.declared.made.Made.{Made}
use Rattle.section_commands.specs.declared.made.Unmade.{Unmade}
use Rattle.section_commands.specs.Coming.{Coming}
use Rattle.section_commands.specs.FirstFault.{first_failing}
use Rattle.section_commands.specs.Making.{IsUnfinished, MadeAs, UnmadeAs}
use Rattle.section_commands.specs.Process.{File, ProcessComes, coming_of_module, file_note}
use Rattle.section_commands.specs.Procwalk.{FilesCome, IsModuleOf, ProcwalkComesIn, coming_of_modules, module_file_check, files_fault, mixed_item, modules_walks, sums_limit}
use Rattle.section_commands.proofs.Lists.{as_many}
use Rattle.section_commands.proofs.Making.{made_as, unfinished_as, unmade_as}
use Rattle.section_commands.proofs.Processes.{fault_found, from_process}
use Rattle.section_commands.proofs.Reading.{Reading, fault_step}

-- ---- the first that passes
pub position_map : {X Y : Type 0} (p : Y → Bool) (f : X → Y) (xs : List X) → position p (map f xs) ≡ position (λ (x : X). p (f x)) xs
position_map {X} {Y} p f xs =
    ap (λ (n : ℕ). cond (nat_lt n (length (map f xs))) (Some n) None) (place p f xs)
    ∙ ap (λ (n : ℕ). cond (nat_lt (position_or_len (λ x. p (f x)) xs) n) (Some (position_or_len (λ x. p (f x)) xs)) None) (length-map xs f)
  where
    place : (p : Y → Bool) (f : X → Y) (xs : List X) → position_or_len p (map f xs) ≡ position_or_len (λ (x : X). p (f x)) xs
    place p f [] = refl
    place p f (x ∷ xs) = ap (λ (n : ℕ). cond (not (p (f x))) (1 + n) 0) (place p f xs)

-- ---- while modules are read
abbrev pub ReadingFiles : ProcessView → (all : List File) → (item : ℕ) → (left : List File) → List ModuleView → Type 0
ReadingFiles p all item left modules = Reading (module_file_check p) (IsModuleOf p) 1 all item left modules

-- a file of which no module is read is the first, or memory ran out, or more of the core file has to be read
pub unread : (p : ProcessView) (all : List File) (item number : ℕ) (left : List File) (modules : List ModuleView) (file : File) (later : List File) (fault : ModuleFault) (unmade : Unmade)
    → ReadingFiles p all item left modules → left ≡ file ∷ later → IsFaultOf (module_file_check p file) fault → number ≡ item → (module_refusal fault ≡ None → IsUnfinished true unmade)
    → UnmadeAs (λ (c : Coming). c ≡ coming_of_module number fault) unmade → (depth : ℕ) → UnmadeAs (FilesCome p depth all (files_fault p all)) unmade
unread p all item number left modules file later fault unmade h are found is unfinished tells depth = by_cause (fault_found (module_file_check p file) fault found)
  where
    by_cause : (module_refusal fault ≡ None) ⊎ (module_file_check p file ≡ Err fault) → UnmadeAs (FilesCome p depth all (files_fault p all)) unmade
    by_cause (inl none) = unfinished_as (FilesCome p depth all (files_fault p all)) true unmade (unfinished none)
    by_cause (inr check) =
        let first : files_fault p all ≡ Some (item, fault) = h.fault ∙ ap (first_failing (module_file_check p) item) are ∙ fault_step (module_file_check p) item file later (Err fault) check in
        unmade_as (λ (c : Coming). c ≡ coming_of_module number fault) (FilesCome p depth all (files_fault p all))
        (λ c e. subst (λ (f : Option (ℕ × ModuleFault)). FilesCome p depth all f c) (sym first) (e ∙ ap (λ (n : ℕ). coming_of_module n fault) is)) unmade tells

-- ---- how long files are
abbrev pub IsShort : List ℕ → Type 0
IsShort bytes = length bytes < 2 ^ 32

-- the files are short, of items that are numbered from `item` on and come after `total` bytes that count
files_short : (item total : ℕ) (names items : List (List ℕ)) → length items ≡ length names → bytes_limit item total (zip (map Mapped names) items) ≡ None → All IsShort items
files_short item total [] [] count h = All-nil IsShort
files_short item total [] (i ∷ is) count h = let none : ⊥ = omega (arith, count) in absurd none
files_short item total (n ∷ ns) [] count h = All-nil IsShort
files_short item total (n ∷ ns) (bytes ∷ items) count h =
    let rest = zip (map Mapped ns) items in
    let here = within_both item total (Mapped n) bytes rest h in
    All-cons IsShort bytes items (omega (arith, here.0)) (files_short (item + 1) (total + length bytes) ns items (omega (arith, count)) (sym (goes_on item total (Mapped n) bytes rest here.0 here.1) ∙ h))

-- the files after a core file are short
pub all_short : (name core : List ℕ) (names items : List (List ℕ)) → length items ≡ length names → items_limit (Core name ∷ map Mapped names) (core ∷ items) ≡ None → All IsShort items
all_short name core names items count h =
    let rest = zip (map Mapped names) items in
    let here = within_both 0 0 (Core name) core rest h in
    files_short _ _ names items count (sym (goes_on 0 0 (Core name) core rest here.0 here.1) ∙ h)

-- the files that were loaded after a core file are short
pub loaded_short : (name : List ℕ) (names : List (List ℕ)) (loaded : List Loaded) → loaded_items loaded ≡ Core name ∷ map Mapped names → items_limit (Core name ∷ map Mapped names) (loaded_bytes loaded) ≡ None
    → All IsShort (loaded_bytes (drop 1 loaded))
loaded_short name names [] h limit = let none : ⊥ = cc in absurd none
loaded_short name names (l ∷ ls) h limit =
    let later : loaded_items ls ≡ map Mapped names = cc in
    let count : length (loaded_bytes ls) ≡ length names = length-map ls (λ (l : Loaded). read_bytes l.read) ∙ as_many ls (map Mapped names) later ∙ length-map names Mapped in
    all_short name (read_bytes l.read) names (loaded_bytes ls) count limit

-- ---- what a core file and files come to
-- a file is refused, or memory ran out
pub files_unread : (core : List ℕ) (depth page : ℕ) (entries : List EntryView) (files : List File) (unmade : Unmade) → core_check core ≡ Ok tt → file_entries_check (file_note core) ≡ Ok tt → HasEntries (file_note core) page entries
    → UnmadeAs (ProcwalkComesIn depth files (process_of core page entries)) unmade → UnmadeAs (ProcessComes core (ProcwalkComesIn depth files) (core_check core)) unmade
files_unread core depth page entries files unmade fine note are =
    unmade_as (ProcwalkComesIn depth files (process_of core page entries)) (ProcessComes core (ProcwalkComesIn depth files) (core_check core))
    (λ c h. from_process core page entries (ProcwalkComesIn depth files) c record { core_fine = fine; note_fine = note; are = are } h) unmade

-- the modules are of several machines, exceed a limit, or walk
pub modules_walked : (core : List ℕ) (depth page : ℕ) (entries : List EntryView) (files : List File) (modules : List ModuleView) (made : Result Made Unmade) → core_check core ≡ Ok tt → file_entries_check (file_note core) ≡ Ok tt
    → HasEntries (file_note core) page entries → files_fault (process_of core page entries) files ≡ None → AllZip (IsModuleOf (process_of core page entries)) files modules
    → MadeAs (λ (c : Coming). c ≡ coming_of_modules (mixed_item (arch_of core) modules) (sums_limit (tables_of modules)) (modules_walks entries modules core depth)) made
    → MadeAs (ProcessComes core (ProcwalkComesIn depth files) (core_check core)) made
modules_walked core depth page entries files modules made fine note are checked each =
    made_as (λ (c : Coming). c ≡ coming_of_modules (mixed_item (arch_of core) modules) (sums_limit (tables_of modules)) (modules_walks entries modules core depth)) (ProcessComes core (ProcwalkComesIn depth files) (core_check core))
    (λ c e. from_process core page entries (ProcwalkComesIn depth files) c record { core_fine = fine; note_fine = note; are = are }
    (subst (λ (fault : Option (ℕ × ModuleFault)). FilesCome (process_of core page entries) depth files fault c) (sym checked) record { modules = modules; are = each; is = e })) made
