-- `procwalk CORE DEPTH FILE ..`: the walks of a core file's threads by the sections of the files that were mapped (Linux core files, NT_FILE; ELF64 gABI, "Program Header"; GNU SFrame specification, Version 2).
use Rattle.std.specs.Prelude.{◌≡◌, ◌<◌, ◌+◌, ℕ, Bool, ◌&&◌, not, All, List, [], ◌∷◌, codes, drop, get_or, length, map, Option, Some, None}
use Rattle.std.specs.List.{AllZip, position, zip}
use Rattle.std.specs.Option.{option_map}
use Rattle.std.specs.String.{string_bytes}
use Rattle.sf_base.specs.Word.{SpellsDecimal}
use Rattle.sf_model.specs.declared.machine.Arch.{Arch}
use Rattle.elf_read.specs.Header.{arch_of}
use Rattle.core_notes.specs.Checks.{core_check, file_threads}
use Rattle.core_notes.specs.Memory.{file_regions}
use Rattle.sf_modules.specs.declared.fault.ModuleFault.{ModuleFault}
use Rattle.sf_modules.specs.Entry.{EntryView}
use Rattle.sf_modules.specs.Fault.{Check}
use Rattle.sf_modules.specs.Found.{modules_walk}
use Rattle.sf_modules.specs.Module.{IsModule, ModuleView}
use Rattle.sf_modules.specs.Process.{ProcessView}
use Rattle.sf_modules.specs.Reading.{module_check}
use Rattle.sf_modules.specs.Union.{tables_of}
use Rattle.sf_merge.specs.Merging.{same_arch}
use Rattle.sf_words.specs.declared.refusal.Limit.{Limit}
use Rattle.sf_words.specs.Files.{FilesWords}
use Rattle.sf_words.specs.Forms.{IsDepth}
use Rattle.sf_words.specs.Items as item
use Rattle.section_commands.specs.declared.procwalk.Procwalk.{Procwalk}
use Rattle.section_commands.specs.declared.made.Outcome.TheVariants.{Done}
use Rattle.section_commands.specs.Coming.{Coming, Exceeded, Makes, Refused}
use Rattle.section_commands.specs.FirstFault.{first_failing}
pub use Rattle.section_commands.specs.Limits.{sums_limit}
use Rattle.section_commands.specs.Process.{File, ProcessComes, coming_of_module}
use Rattle.section_commands.specs.Walks.{shown_of_mixed, walks_text}

-- what is asked of `procwalk`, or of a command of the same form: the core file's name, the most frames of a thread, and the names of the files that were mapped
pub record ProcwalkWords : Type 0 where
  pub core : List ℕ
  pub depth : ℕ
  pub files : List (List ℕ)

-- the words are a command with this name, this core file, this depth and these files: each name is a whole word that is not empty, and one
-- file at least is named
pub record NameProcess (command : List ℕ) (words : List (List ℕ)) (procwalk : ProcwalkWords) : Type 0 where
  pub depth_word : List ℕ
  pub words_are : words ≡ command ∷ procwalk.core ∷ depth_word ∷ procwalk.files
  pub named : 0 < length procwalk.core
  pub depth : SpellsDecimal depth_word procwalk.depth
  pub within : IsDepth procwalk.depth
  pub some : 0 < length procwalk.files
  pub files_named : All (λ (name : List ℕ). 0 < length name) procwalk.files

-- the words ask for these walks
abbrev pub IsProcwalk : List (List ℕ) → ProcwalkWords → Type 0
IsProcwalk words procwalk = NameProcess (codes "procwalk") words procwalk

-- its files: a core file, and those of its list
abbrev pub procwalk_files : ProcwalkWords → FilesWords
procwalk_files procwalk = record { out = None; first = item.Core procwalk.core ∷ []; list = map item.Mapped procwalk.files }

-- ---- the modules
-- this is the module of a file
abbrev pub IsModuleOf : ProcessView → File → ModuleView → Type 0
IsModuleOf p file m = IsModule p file.0 file.1 m

abbrev pub module_file_check : ProcessView → File → Check
module_file_check p file = module_check p file.0 file.1

-- the first file whose module can't be read, and its fault: the files are the items from 1 on
abbrev pub files_fault : ProcessView → List File → Option (ℕ × ModuleFault)
files_fault p files = first_failing (module_file_check p) 1 files

-- a module's file, or its section, is for another machine
abbrev pub is_for_another : Arch → ModuleView → Bool
is_for_another arch m = not (same_arch arch m.machine && same_arch arch m.table.arch)

-- the item of the first module whose file or section is for another machine
abbrev pub mixed_item : Arch → List ModuleView → Option ℕ
mixed_item arch modules = option_map (λ (k : ℕ). k + 1) (position (is_for_another arch) modules)

-- ---- the walks
-- the walks of all threads of a core file by the rows of modules, with the file's memory, each of at most `depth` frames
abbrev pub modules_walks : List EntryView → List ModuleView → (core : List ℕ) → (depth : ℕ) → List ℕ
modules_walks entries modules core depth = walks_text (λ thread. modules_walk entries modules thread (file_regions core) depth) 0 (file_threads core)

-- the text, where all modules are for the core file's machine, and their sections within the limits
abbrev pub coming_of_modules : (mixed : Option ℕ) → Option Limit → (text : List ℕ) → Coming
coming_of_modules (Some item) limit text = Refused (shown_of_mixed item)
coming_of_modules None (Some limit) text = Exceeded limit
coming_of_modules None None text = Makes Done None text

-- what the walks by the modules of these files come to
pub record ModulesCome (p : ProcessView) (depth : ℕ) (files : List File) (coming : Coming) : Type 0 where
  pub modules : List ModuleView
  pub are : AllZip (IsModuleOf p) files modules
  pub is : coming ≡ coming_of_modules (mixed_item (arch_of p.core) modules) (sums_limit (tables_of modules)) (modules_walks p.entries modules p.core depth)

abbrev pub FilesCome : ProcessView → (depth : ℕ) → List File → Option (ℕ × ModuleFault) → Coming → Type 0
FilesCome p depth files (Some fault) coming = coming ≡ coming_of_module fault.0 fault.1
FilesCome p depth files None coming = ModulesCome p depth files coming

-- what the files come to: the first whose module can't be read, or the walks
abbrev pub ProcwalkComesIn : (depth : ℕ) → List File → ProcessView → Coming → Type 0
ProcwalkComesIn depth files p coming = FilesCome p depth files (files_fault p files) coming

-- what walking the threads of the first item, a core file, by the modules of the others comes to
abbrev pub ProcwalkComes : ProcwalkWords → (items : List (List ℕ)) → Coming → Type 0
ProcwalkComes procwalk items coming =
    ProcessComes (get_or items 0 []) (ProcwalkComesIn procwalk.depth (zip procwalk.files (drop 1 items))) (core_check (get_or items 0 [])) coming

-- what the words ask for, without where they are in memory
abbrev pub procwalk_of : Procwalk → ProcwalkWords
procwalk_of procwalk = record { core = procwalk.core.now; depth = procwalk.depth; files = map string_bytes procwalk.files.now }
