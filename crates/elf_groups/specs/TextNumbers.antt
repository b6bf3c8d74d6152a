-- Texts of whole blocks of 256 bytes, by their numbers. The text without bytes has the number 0.
use Rattle.std.specs.Prelude.{◌≡◌, ◌<◌, ◌≤◌, ◌*◌, ℕ, zero, suc, List, [], ◌++◌, length, map, take, drop, get_or, Option, Some}
use Rattle.std.specs.Ordering.{nat_cmp, ordering_then}
use Rattle.std.specs.declared.cmp.Ordering.{Ordering}
use Rattle.std.specs.Cmp.Lexicographic.{slice_cmp}
use Rattle.std.specs.Borrow.{Bor}
use Rattle.std.specs.BTreeMap.{get_by}
use Rattle.elf_groups.specs.declared.text_numbers.TextNumbers.{TextNumbers}

-- how many texts with bytes there are
abbrev pub count_of : TextNumbers → ℕ
count_of b = length b.texts.items

-- the text with a number
abbrev pub text_of : TextNumbers → ℕ → List ℕ
text_of b zero = []
text_of b (suc k) = get_or (map (λ t. t.bytes.now) b.texts.items) k []

-- the number of what follows the first block of a text
abbrev pub rest_of : TextNumbers → ℕ → ℕ
rest_of b k = get_or (map (λ t. t.rest) b.texts.items) k 0

-- the order in which a block and the number of what follows it are looked up
abbrev pub block_cmp : (rest : ℕ) → (block : List ℕ) → ℕ × Bor (List ℕ) → Ordering
block_cmp rest block key = ordering_then (nat_cmp rest key.0) (slice_cmp nat_cmp block key.1.now)

-- the number that is kept for a block and what follows it
abbrev pub number_kept : TextNumbers → (rest : ℕ) → (block : List ℕ) → Option ℕ
number_kept b rest block = get_by (block_cmp rest block) b.numbers

-- a text is its first block and a text with a lower number, and its number is kept for these
pub record IsNumbered (b : TextNumbers) (k : ℕ) : Type 0 where
  pub lower : rest_of b k ≤ k
  pub some : 256 ≤ length (text_of b (suc k))
  pub follows : drop 256 (text_of b (suc k)) ≡ text_of b (rest_of b k)
  pub kept : number_kept b (rest_of b k) (take 256 (text_of b (suc k))) ≡ Some (suc k)

-- what is kept for a block and what follows it is the number of both together
pub record IsNumberOf (b : TextNumbers) (rest : ℕ) (block : List ℕ) (n : ℕ) : Type 0 where
  pub rest_below : rest ≤ count_of b
  pub below : n ≤ count_of b
  pub text : text_of b n ≡ block ++ text_of b rest

-- each text with a number is numbered by its blocks, and what is kept leads to these numbers
pub record AreBlocks (b : TextNumbers) : Type 0 where
  pub each : (k : ℕ) → k < count_of b → IsNumbered b k
  pub kept : (rest : ℕ) (block : List ℕ) (n : ℕ) → number_kept b rest block ≡ Some n → IsNumberOf b rest block n

-- the number is that of the text
pub record Numbers (b : TextNumbers) (n : ℕ) (bytes : List ℕ) : Type 0 where
  pub below : n ≤ count_of b
  pub text : text_of b n ≡ bytes

-- ---- Inside the crate
-- no text loses its number
abbrev pub KeepsNumbers : (old new : TextNumbers) → Type 0
KeepsNumbers old new = (n : ℕ) (text : List ℕ) → Numbers old n text → Numbers new n text

-- the text is made of whole blocks
abbrev pub IsOfBlocks : List ℕ → Type 0
IsOfBlocks text = (count : ℕ) × (length text ≡ count * 256)
