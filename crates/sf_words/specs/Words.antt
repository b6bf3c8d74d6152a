-- Words of a command line that each name a file.
use Rattle.std.specs.Prelude.{◌≡◌, ℕ, ◌<◌, List, ◌∷◌, ◌++◌, length, codes}
use Rattle.sf_base.specs.Word.{SpellsHexadecimal}
use Rattle.sf_model.specs.declared.machine.Arch.{Arch}
use Rattle.sf_model.specs.declared.machine.Arch.TheVariants.{Amd64, Aarch64}
use Rattle.sf_model.specs.declared.form.Form.{Form}
use Rattle.sf_model.specs.declared.form.Form.TheVariants.{Elf, Bare}
use Rattle.sf_words.specs.declared.words.InputFile.{InputFile}
use Rattle.sf_words.specs.declared.words.SectionFile.{SectionFile}

-- NAME@ADDRESS: a name, an `@`, and an address as `0x` and 1 to 16 lower-case digits of base 16
pub record IsPlaced (word name : List ℕ) (address : ℕ) : Type 0 where
  pub digits : List ℕ
  pub parts : word ≡ name ++ 64 ∷ digits
  pub value : SpellsHexadecimal digits address

-- the prefix of a word that names a bare call frame section for this machine
abbrev pub prefix_of : Arch → List ℕ
prefix_of Amd64 = codes "eh-amd64:"
prefix_of Aarch64 = codes "eh-aarch64:"

-- how the name of an input is spelled: a bare section's after its machine's prefix, and an ELF file's as it is, if it begins with neither
-- prefix
abbrev pub Spells : Form → (text name : List ℕ) → Type 0
Spells (Bare arch) text name = text ≡ prefix_of arch ++ name
Spells Elf text name = (text ≡ name) × ((arch : Arch) (rest : List ℕ) → text ≡ prefix_of arch ++ rest → ⊥)

-- an input: what its bytes are, the file's name and the load address
pub record InputWords : Type 0 where
  pub form : Form
  pub name : List ℕ
  pub base : ℕ

-- the word names this input, and the name is not empty
pub record IsInputWord (word : List ℕ) (input : InputWords) : Type 0 where
  pub text : List ℕ
  pub placed : IsPlaced word text input.base
  pub spelled : Spells input.form text input.name
  pub named : 0 < length input.name

-- a section in a file: the file's name and the section's address
pub record SectionWords : Type 0 where
  pub name : List ℕ
  pub at : ℕ

-- the word names this section, and the name is not empty
pub record IsSectionWord (word : List ℕ) (section : SectionWords) : Type 0 where
  pub placed : IsPlaced word section.name section.at
  pub named : 0 < length section.name

-- what a word says, without where its name is in memory
abbrev pub input_of : InputFile → InputWords
input_of input = record { form = input.form; name = input.name.now; base = input.base }

abbrev pub words_of_section : SectionFile → SectionWords
words_of_section section = record { name = section.name.now; at = section.at }
