-- `procbacktrace CORE DEPTH FILE ..`: the walks of a core file's threads by the call frame information of the files that were mapped
-- (DWARF 5, section 6.4; LSB Core, "The .eh_frame section"; Linux core files, NT_FILE; ELF64 gABI, "Program Header"). Its words and files
-- are those of `procwalk`.
use Rattle.std.specs.Prelude.{◌≡◌, ◌⊎◌, ℕ, Bool, true, false, List, [], ◌∷◌, codes, drop, get_or, map, Option, Some, None, Err, Ok}
use Rattle.std.specs.List.{AllZip, enumerate_from, filter, filter_map, zip}
use Rattle.elf_read.specs.Header.{arch_of}
use Rattle.core_notes.specs.Checks.{core_check}
use Rattle.sf_asm.specs.declared.fault.LinkFault.{LinkFault}
use Rattle.sf_merge.specs.Merging.{same_arch}
use Rattle.sf_plt.specs.Linking.{LinksPlts}
use Rattle.sf_modules.specs.declared.fault.ModuleFault.TheVariants.{NotMapped}
use Rattle.sf_modules.specs.Fault.{Check}
use Rattle.sf_modules.specs.Mapped.{IsMapped, MappedView}
use Rattle.sf_modules.specs.Match.{is_candidate}
use Rattle.sf_modules.specs.Process.{ProcessView}
use Rattle.sf_modules.specs.Reading.{mapped_check}
use Rattle.module_tables.specs.Numbered.{numbered_fault}
use Rattle.module_tables.specs.Table.{file_at}
use Rattle.process_tables.specs.Modules.{IsMappedModule, MappedModule}
use Rattle.process_tables.specs.Texts.{mapped_walks}
use Rattle.sf_text.specs.Passed.{PassedView, passed_lines}
use Rattle.sf_words.specs.declared.refusal.Limit.{Limit}
use Rattle.section_commands.specs.declared.made.Outcome.TheVariants.{Done}
use Rattle.section_commands.specs.Coming.{Coming, Exceeded, MakesNoting, Refused}
use Rattle.section_commands.specs.Process.{File, ProcessComes, coming_of_module}
use Rattle.section_commands.specs.Procwalk.{NameProcess, ProcwalkWords, sums_limit}
use Rattle.section_commands.specs.Walks.{shown_of_mixed}
use Rattle.sf_run.specs.Linked.{coming_of_link_fault}

-- the words ask for these walks
abbrev pub IsProcbacktrace : List (List ℕ) → ProcwalkWords → Type 0
IsProcbacktrace words procbacktrace = NameProcess (codes "procbacktrace") words procbacktrace

-- ---- one file
-- what a fault of linking the file of an item comes to
abbrev pub coming_of_table : (item : ℕ) → LinkFault → Coming
coming_of_table item fault = coming_of_link_fault (Some item) (numbered_fault item fault)

-- a file of the process is found and linked where it was
pub record HasModule (p : ProcessView) (item : ℕ) (file : File) (m : MappedModule) : Type 0 where
  pub checked : mapped_check p file.0 file.1 ≡ Ok tt
  pub is : IsMappedModule p item file.0 file.1 m

-- a file is found, and linking it where it was has a fault
pub record IsUnlinked (p : ProcessView) (item : ℕ) (file : File) (coming : Coming) : Type 0 where
  pub mapped : MappedView
  pub is_mapped : IsMapped p file.0 file.1 mapped
  pub fault : LinkFault
  pub links : LinksPlts None (file_at file.1 mapped.base ∷ []) mapped.entry.start (Err fault)
  pub is : coming ≡ coming_of_table item fault

-- a file is found and linked, and it is for another machine than the core file
pub record IsForAnother (p : ProcessView) (item : ℕ) (file : File) (coming : Coming) : Type 0 where
  pub made : MappedModule
  pub has : HasModule p item file made
  pub other : same_arch (arch_of p.core) made.machine ≡ false
  pub is : coming ≡ Refused (shown_of_mixed item)

-- A file can't be used: by the first fault of finding it, or else of linking it, or else since it is for another machine. The fault comes to a
-- refusal, or to a limit of functions or rows.
abbrev pub IsUnusable : ProcessView → (item : ℕ) → File → Check → Coming → Type 0
IsUnusable p item file (Err fault) coming = coming ≡ coming_of_module item fault
IsUnusable p item file (Ok u) coming = IsUnlinked p item file coming ⊎ IsForAnother p item file coming

-- a file is used: it is found and linked where it was, and it is for the core file's machine
pub record IsUsed (p : ProcessView) (item : ℕ) (file : File) (m : MappedModule) : Type 0 where
  pub has : HasModule p item file m
  pub same : same_arch (arch_of p.core) m.machine ≡ true

-- what becomes of a file: it is used, as this module; it is passed, for a fault; or it exceeds a limit
pub data FileOutcome : Type 0 where
  Used : MappedModule → FileOutcome
  Passed : PassedView → FileOutcome
  Over : (limit : Limit) → FileOutcome

-- What becomes of the file of an item. Each refusal passes it, and no limit does.
abbrev pub FileComes : ProcessView → (item : ℕ) → File → FileOutcome → Type 0
FileComes p item file (Used m) = IsUsed p item file m
FileComes p item file (Passed passed) = (passed.name ≡ file.0) × IsUnusable p item file (mapped_check p file.0 file.1) (Refused passed.shown)
FileComes p item file (Over limit) = IsUnusable p item file (mapped_check p file.0 file.1) (Exceeded limit)

-- ---- all files
-- a file with its item
abbrev pub NumberedFile : Type 0
NumberedFile = ℕ × File

-- an entry of the process has the file's base name
abbrev pub is_named : ProcessView → NumberedFile → Bool
is_named p file = is_candidate file.1.0 p.entries

-- of files that are the items from `item` on, those whose base names the process had: any other is skipped
abbrev pub files_named : ProcessView → (item : ℕ) → List File → List NumberedFile
files_named p item files = filter (is_named p) (enumerate_from item files)

-- what becomes of each of these
abbrev pub FilesCome : ProcessView → (item : ℕ) → List File → List FileOutcome → Type 0
FilesCome p item files outcomes = AllZip (λ (file : NumberedFile). FileComes p file.0 file.1) (files_named p item files) outcomes

abbrev pub module_of : FileOutcome → Option MappedModule
module_of (Used m) = Some m
module_of (Passed passed) = None
module_of (Over limit) = None

abbrev pub passed_of : FileOutcome → Option PassedView
passed_of (Used m) = None
passed_of (Passed passed) = Some passed
passed_of (Over limit) = None

abbrev pub limit_of : FileOutcome → Option Limit
limit_of (Used m) = None
limit_of (Passed passed) = None
limit_of (Over limit) = Some limit

-- the modules of the files that are used, and the files that are passed
abbrev pub modules_used : List FileOutcome → List MappedModule
modules_used outcomes = filter_map module_of outcomes

abbrev pub files_passed : List FileOutcome → List PassedView
files_passed outcomes = filter_map passed_of outcomes

-- the first limit that a file exceeds
abbrev pub first_of : List Limit → Option Limit
first_of [] = None
first_of (limit ∷ limits) = Some limit

abbrev pub first_limit : List FileOutcome → Option Limit
first_limit outcomes = first_of (filter_map limit_of outcomes)

-- ---- the walks
-- a limit that is exceeded, or else this
abbrev pub coming_within : Option Limit → Coming → Coming
coming_within (Some limit) coming = Exceeded limit
coming_within None coming = coming

-- no file is used: the first that is passed is refused, and if all are skipped, the first of them, as one that was not mapped
abbrev pub coming_of_none : List PassedView → Coming
coming_of_none [] = coming_of_module 1 NotMapped
coming_of_none (passed ∷ later) = Refused passed.shown

-- the walks through these modules, if their sections are within the limits together; each file that is passed is noted
abbrev pub coming_of_walks : ProcessView → (depth : ℕ) → List MappedModule → List PassedView → Coming
coming_of_walks p depth modules passed =
    coming_within (sums_limit (map (λ (m : MappedModule). m.table) modules)) (MakesNoting Done None (mapped_walks p.entries modules p.core depth) (passed_lines passed))

-- the walks, if a file is used
abbrev pub coming_of_modules : ProcessView → (depth : ℕ) → List MappedModule → List PassedView → Coming
coming_of_modules p depth [] passed = coming_of_none passed
coming_of_modules p depth (m ∷ modules) passed = coming_of_walks p depth (m ∷ modules) passed

-- what the outcomes of all files come to: the first limit, or else the walks
abbrev pub coming_of_files : ProcessView → (depth : ℕ) → List FileOutcome → Coming
coming_of_files p depth outcomes = coming_within (first_limit outcomes) (coming_of_modules p depth (modules_used outcomes) (files_passed outcomes))

-- what the walks of a process through its files come to
pub record ProcbacktraceComesIn (depth : ℕ) (files : List File) (p : ProcessView) (coming : Coming) : Type 0 where
  pub outcomes : List FileOutcome
  pub come : FilesCome p 1 files outcomes
  pub is : coming ≡ coming_of_files p depth outcomes

-- what walking the threads of the first item, a core file, through the others comes to
abbrev pub ProcbacktraceComes : ProcwalkWords → (items : List (List ℕ)) → Coming → Type 0
ProcbacktraceComes procbacktrace items coming =
    ProcessComes (get_or items 0 []) (ProcbacktraceComesIn procbacktrace.depth (zip procbacktrace.files (drop 1 items))) (core_check (get_or items 0 [])) coming
