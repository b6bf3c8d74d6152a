-- `gen N`: which words ask for it, its files, and what it comes to.
use Rattle.std.specs.Prelude.{◌≡◌, ◌<◌, ◌≤◌, ℕ, List, [], ◌∷◌, codes, length, None}
use Rattle.sf_base.specs.Word.{SpellsDecimal}
use Rattle.sf_model.specs.declared.omission.Omitted.{Omitted}
use Rattle.sf_gen.specs.Object.{object_bytes}
use Rattle.sf_model.specs.declared.form.Form.TheVariants.{Elf}
use Rattle.frame_functions.specs.Functions.{Function}
use Rattle.sf_asm.specs.Functions.{Object}
use Rattle.sf_text.specs.Summary.{summary_text}
use Rattle.sf_words.specs.Files.{FilesWords}
use Rattle.section_commands.specs.Coming.{Coming, Makes}
use Rattle.section_commands.specs.declared.made.Outcome.TheVariants.{Done}
use Rattle.sf_run.specs.Linked.{LinkedComes}

-- how many functions a made object may have: 1 to 100000
pub record IsFunctionCount (n : ℕ) : Type 0 where
  pub some : 0 < n
  pub most : n ≤ 100000

-- the words ask for the link of a made object of n functions
pub record IsGen (words : List (List ℕ)) (n : ℕ) : Type 0 where
  pub count_word : List ℕ
  pub words_are : words ≡ codes "gen" ∷ count_word ∷ []
  pub count : SpellsDecimal count_word n
  pub within : IsFunctionCount n

-- its files: none is made or read
abbrev pub gen_files : FilesWords
gen_files = record { out = None; first = []; list = [] }

-- the made object of n functions, an ELF file whose sections are laid out from 0x400000 on
abbrev pub made_object : (n : ℕ) → Object
made_object n = record { form = Elf; bytes = object_bytes n; base = 0x400000 }

-- the summary of its link, and no section
abbrev pub summary_alone : (n : ℕ) → List Function → (section : List ℕ) → (kept : ℕ) → (omitted : List Omitted) → Coming
summary_alone n functions section kept omitted = Makes Done None (summary_text n kept (length omitted) section)

-- what linking the made object comes to, for a section at 0x4000000
abbrev pub GenComes : (n : ℕ) → Coming → Type 0
GenComes n coming = LinkedComes None (made_object n ∷ []) 0x4000000 (summary_alone n) coming
