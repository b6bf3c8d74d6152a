-- What a command comes to is one thing.
use Rattle.std.proofs.Common.{◌≡◌, ◌<◌, ℕ, List, [], All, length, get_or}
use Rattle.sf_model.specs.Section.{AreBytes}
use Rattle.sf_words.specs.Files.{FilesWords, items_of}
use Rattle.section_commands.specs.Coming.{Coming}

-- A command that words can ask for comes to one thing at most over the bytes of its items, one file each. It comes to something over every
-- list of bytes.
pub record ComesToOne (IsAsked : List (List ℕ) → Type 0) (files : FilesWords) (Comes : List (List ℕ) → Coming → Type 0) : Type 0 where
  pub one : ((words : List (List ℕ)) × IsAsked words) → (items : List (List ℕ)) → length items ≡ length (items_of files) → (c d : Coming) → Comes items c → Comes items d → c ≡ d
  pub some : ((words : List (List ℕ)) × IsAsked words) → (items : List (List ℕ)) → length items ≡ length (items_of files) → All AreBytes items → (coming : Coming) × Comes items coming

-- the bytes of one of the items
pub bytes_at : (items : List (List ℕ)) (i : ℕ) → All AreBytes items → i < length items → AreBytes (get_or items i [])
bytes_at items i h lt = h i [] lt
