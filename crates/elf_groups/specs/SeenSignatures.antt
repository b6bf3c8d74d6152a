-- Signatures that are kept by the numbers of their whole blocks, and what is known of the texts of one file.
use Rattle.std.specs.Prelude.{◌≡◌, ◌<◌, ◌-◌, ◌++◌, ℕ, Bool, List, All, length, bytes_eq}
use Rattle.std.specs.List.{list_any}
use Rattle.std.specs.Borrow.{Bor}
use Rattle.std.specs.BTreeSet.{keys}
use Rattle.elf_read.specs.Number.{LiesAt, window}
use Rattle.elf_groups.specs.declared.text_numbers.TextNumbers.{TextNumbers}
use Rattle.elf_groups.specs.declared.file_strings.FileStrings.{FileStrings}
use Rattle.elf_groups.specs.declared.file_strings.NumberedText.{NumberedText}
use Rattle.elf_groups.specs.declared.groups.SeenSignatures.{SeenSignatures}
use Rattle.elf_groups.specs.TextNumbers.{AreBlocks, Numbers, text_of}
use Rattle.elf_groups.specs.StringEnds.{AreRuns}

-- whether a signature is this one, which is kept as the number of its whole blocks and what comes before them
abbrev pub is_kept_as : TextNumbers → List ℕ → ℕ × Bor (List ℕ) → Bool
is_kept_as blocks signature kept = bytes_eq signature (kept.1.now ++ text_of blocks kept.0)

-- what is kept so is shorter than a block and a text with a number
pub record IsKeptIn (blocks : TextNumbers) (kept : ℕ × Bor (List ℕ)) : Type 0 where
  pub short : length kept.1.now < 256
  pub number : Numbers blocks kept.0 (text_of blocks kept.0)

-- the set has these signatures, and no others
pub record HasSeen (set : SeenSignatures) (seen : List (List ℕ)) : Type 0 where
  pub blocks : AreBlocks set.blocks
  pub kept : All (IsKeptIn set.blocks) (keys set.signatures)
  pub each : (signature : List ℕ) → list_any (is_kept_as set.blocks signature) (keys set.signatures) ≡ list_any (bytes_eq signature) seen

-- ---- Inside the crate: what is known of the texts of one file
-- a number of the bytes from one place of a file to another
unfoldable pub IsKnown : List ℕ → TextNumbers → NumberedText → Type 0
IsKnown file blocks known = Numbers blocks known.number (window known.place (known.end - known.place) file)

-- each number that is kept is right
abbrev pub AreKnown : List ℕ → TextNumbers → FileStrings → Type 0
AreKnown file blocks texts = All (λ e. IsKnown file blocks e.1) texts.known.entries

-- what is known of a file's texts is right
pub record HasTexts (file : List ℕ) (blocks : TextNumbers) (texts : FileStrings) : Type 0 where
  pub runs : AreRuns file texts.ends
  pub known : AreKnown file blocks texts

-- P of a file and of the signatures that were seen, which the set has, where what is known of the file's texts is right and this text lies at the place
abbrev pub ForText : SeenSignatures → FileStrings → (place : ℕ) → (text : List ℕ) → (P : (file : List ℕ) → (seen : List (List ℕ)) → Type 0) → Type 0
ForText set texts place text P = (file : List ℕ) (seen : List (List ℕ)) → HasSeen set seen → HasTexts file set.blocks texts → LiesAt place text file → P file seen

-- P of the signatures that were seen, which the set has, where what is known of this file's texts is right
abbrev pub ForFile : SeenSignatures → FileStrings → (file : List ℕ) → (P : (seen : List (List ℕ)) → Type 0) → Type 0
ForFile set texts file P = (seen : List (List ℕ)) → HasSeen set seen → HasTexts file set.blocks texts → P seen
