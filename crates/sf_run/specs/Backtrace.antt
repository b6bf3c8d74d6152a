-- `backtrace OUT@AT CORE DEPTH IN@BASE ..`: which words ask for it, its files, and what it comes to (SFrame; DWARF 5, section 6.4; Linux
-- core files).
use Rattle.std.specs.Prelude.{◌≡◌, ◌<◌, ℕ, List, [], ◌∷◌, codes, drop, get_or, length, map, Some, Result, Ok, Err}
use Rattle.std.specs.List.{AllZip}
use Rattle.sf_base.specs.Word.{SpellsDecimal}
use Rattle.sf_model.specs.declared.omission.Omitted.{Omitted}
use Rattle.elf_read.specs.Header.{arch_of}
use Rattle.core_notes.specs.declared.fault.CoreFault.{CoreFault}
use Rattle.core_notes.specs.Checks.{core_check, file_threads}
use Rattle.core_notes.specs.Memory.{file_regions}
use Rattle.sf_asm.specs.Faithful.{dwarf_walk}
use Rattle.frame_functions.specs.Functions.{Function}
use Rattle.sf_asm.specs.Functions.{Object}
use Rattle.sf_words.specs.Files.{FilesWords}
use Rattle.sf_words.specs.Forms.{IsDepth}
use Rattle.sf_words.specs.Items.{Input, Core}
use Rattle.sf_words.specs.Named.{inputs_of}
use Rattle.sf_words.specs.Words.{InputWords, IsInputWord, IsSectionWord, SectionWords, words_of_section}
use Rattle.section_commands.specs.Coming.{Coming, Makes}
use Rattle.section_commands.specs.declared.made.Outcome.TheVariants.{Done}
use Rattle.section_commands.specs.Walk.{WalkWords}
use Rattle.section_commands.specs.Walks.{coming_of_core, walks_text}
use Rattle.sf_run.specs.declared.backtrace.Backtrace.{Backtrace}
use Rattle.sf_run.specs.Inputs.{objects_in}
use Rattle.sf_run.specs.Linked.{LinkedComes}

-- what is asked for: the section's file and address, the core file's name, the most frames of a thread, and what is linked
pub record BacktraceWords : Type 0 where
  pub out : SectionWords
  pub core : List ℕ
  pub depth : ℕ
  pub inputs : List InputWords

-- the same, of the command as the code has it
abbrev pub backtrace_of : Backtrace → BacktraceWords
backtrace_of backtrace = record { out = words_of_section backtrace.out; core = backtrace.core.now; depth = backtrace.depth; inputs = inputs_of backtrace.inputs }

-- the words ask for this link and these walks
pub record IsBacktrace (words : List (List ℕ)) (backtrace : BacktraceWords) : Type 0 where
  pub out_word : List ℕ
  pub depth_word : List ℕ
  pub input_words : List (List ℕ)
  pub words_are : words ≡ codes "backtrace" ∷ out_word ∷ backtrace.core ∷ depth_word ∷ input_words
  pub out : IsSectionWord out_word backtrace.out
  pub named : 0 < length backtrace.core
  pub depth : SpellsDecimal depth_word backtrace.depth
  pub within : IsDepth backtrace.depth
  pub some : 0 < length input_words
  pub inputs : AllZip IsInputWord input_words backtrace.inputs

-- its files: the section is made, and the core file and the inputs are read
abbrev pub backtrace_files : BacktraceWords → FilesWords
backtrace_files backtrace = record { out = Some backtrace.out.name; first = Core backtrace.core ∷ []; list = map Input backtrace.inputs }

-- the walk by the section that is made: `walk OUT@AT CORE DEPTH`
abbrev pub walk_by_section : BacktraceWords → WalkWords
walk_by_section backtrace = record { section = backtrace.out; core = backtrace.core; depth = backtrace.depth }

-- the walks of all threads of a core file by the rows of DWARF, with the file's memory, each of at most `depth` frames
abbrev pub dwarf_walks : List Function → (core : List ℕ) → (depth : ℕ) → List ℕ
dwarf_walks functions core depth = walks_text (λ thread. dwarf_walk functions thread (file_regions core) depth) 0 (file_threads core)

-- the section, and the walks by the rows of DWARF: their text does not depend on the section
abbrev pub section_and_walks : (core : List ℕ) → (depth : ℕ) → List Function → (section : List ℕ) → (kept : ℕ) → (omitted : List Omitted) → Coming
section_and_walks core depth functions section kept omitted = Makes Done (Some section) (dwarf_walks functions core depth)

abbrev pub BacktraceComesFrom : List Object → (at : ℕ) → (core : List ℕ) → (depth : ℕ) → Result (Unit {0}) CoreFault → Coming → Type 0
BacktraceComesFrom objects at core depth (Err fault) coming = coming ≡ coming_of_core 0 fault
BacktraceComesFrom objects at core depth (Ok u) coming = LinkedComes (Some (arch_of core)) objects at (section_and_walks core depth) coming

-- what walking the threads of the first item, a core file, by the section of the others comes to
abbrev pub BacktraceComes : BacktraceWords → (items : List (List ℕ)) → Coming → Type 0
BacktraceComes backtrace items coming =
    BacktraceComesFrom (objects_in backtrace.inputs (drop 1 items)) backtrace.out.at (get_or items 0 []) backtrace.depth (core_check (get_or items 0 [])) coming
