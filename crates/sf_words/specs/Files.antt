-- The files of a command: what it makes, what it reads, and which of these its list names.
use Rattle.std.specs.Prelude.{ℕ, List, [], ◌∷◌, ◌++◌, map, length, Option, Some, None}
use Rattle.std.specs.Option.{option_map}
use Rattle.std.specs.String.{string_bytes}
use Rattle.sf_words.specs.declared.files.CommandFiles.{CommandFiles}
use Rattle.sf_words.specs.declared.files.FileList.{FileList}
use Rattle.sf_words.specs.declared.files.FileList.TheVariants as list
use Rattle.sf_words.specs.declared.item.Item.{Item}
use Rattle.sf_words.specs.Items.{ItemWords, Input, Section, Mapped, item_of, names_of}
use Rattle.sf_words.specs.Named.{inputs_of, named_sections}

-- the name of the file that a command makes, the files that it reads first, and those that its list names
pub record FilesWords : Type 0 where
  pub out : Option (List ℕ)
  pub first : List ItemWords
  pub list : List ItemWords

-- the files that a command reads, in order
abbrev pub items_of : FilesWords → List ItemWords
items_of files = files.first ++ files.list

-- how many files a command's list names, for the limit of 512
abbrev pub counted_items : FilesWords → ℕ
counted_items files = length files.list

-- the names of the files that a command reads, in order
abbrev pub item_names : FilesWords → List (List ℕ)
item_names files = names_of (items_of files)

-- ---- the files as the code has them
abbrev pub items_in : Option Item → List ItemWords
items_in None = []
items_in (Some item) = item_of item ∷ []

abbrev pub list_items : FileList → List ItemWords
list_items list.None = []
list_items (list.Inputs inputs) = map Input (inputs_of inputs)
list_items (list.Sections sections) = map Section (named_sections sections)
list_items (list.Mapped names) = map Mapped (map string_bytes names.now)

abbrev pub files_of : CommandFiles → FilesWords
files_of files = record {
  out = option_map (λ name. name.now) files.out;
  first = items_in files.first ++ items_in files.second;
  list = list_items files.list;
}
