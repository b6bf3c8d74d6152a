use Rattle.std.proofs.Common.{◌≡◌, ℕ, ◌-◌, ◌*◌, List, drop}
use Rattle.elf_read.specs.Number.{LiesAt}
use Rattle.elf_groups.specs.TextNumbers.{AreBlocks, KeepsNumbers, Numbers}
use Rattle.elf_groups.specs.SeenSignatures.{AreKnown, HasTexts}
use Rattle.elf_groups.proofs.file_strings.FileStrings.number.Given as goal

-- what comes after the blocks that are left has a number, and all that is known is right
abbrev pub invariant-loop-index : goal.invariant-loop-index
invariant-loop-index l = record {
  number : (file : List ℕ) → AreBlocks l.fn.blocks → HasTexts file l.fn.blocks l.fn.self → LiesAt l.place l.text file → Numbers l.blocks l.number (drop (l.left - l.index * 256) l.text);
  blocks : (file : List ℕ) → AreBlocks l.fn.blocks → HasTexts file l.fn.blocks l.fn.self → LiesAt l.place l.text file → AreBlocks l.blocks;
  grows : KeepsNumbers l.fn.blocks l.blocks;
  known : (file : List ℕ) → AreBlocks l.fn.blocks → HasTexts file l.fn.blocks l.fn.self → LiesAt l.place l.text file → AreKnown file l.blocks l.self;
  ends : l.self.ends ≡ l.fn.self.ends;
}
