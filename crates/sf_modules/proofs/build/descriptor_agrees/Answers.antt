use Rattle.std.specs.Option.{option_map_or}
use Rattle.std.specs.Prelude.{bytes_eq}
use Rattle.std.specs.List.{find}
use Rattle.std.proofs.Common.{◌≡◌, ℕ, List, [], ◌∷◌, length, Option, Some, None, true, refl, sym, ◌∙◌, arith}
use Rattle.std.proofs.lemmas.Bool.{eqb-true}
use Rattle.sf_model.specs.Memory.{Region}
use Rattle.core_notes.specs.MemoryBytes.{bytes_at, holds_bytes, region_bytes}
use Rattle.std.specs.Option.{option_map}
use Rattle.core_notes.specs.Memory.{file_regions}
use Rattle.core_parts.specs.Input.{map_file}
use Rattle.core_notes.specs.Note.{note_view}
use Rattle.elf_mapped.specs.Program.{program_bytes}
use Rattle.sf_modules.specs.Build.{descriptor_address, descriptor_agrees}
use Rattle.sf_modules.proofs.build.descriptor_agrees.Goals as goal

-- nothing agrees with whatever is there
nothing_agrees : (memory : List Region) (address : ℕ) → option_map_or (bytes_eq []) (bytes_at memory address 0) true ≡ true
unfolding bytes_at
nothing_agrees memory address = at_region (find (holds_bytes address 0) memory)
  where
    at_region : (o : Option Region) → option_map_or (bytes_eq []) (option_map (region_bytes address 0) o) true ≡ true
    at_region None = refl
    at_region (Some region) = refl

-- a text without bytes agrees
empty_agrees : (memory : List Region) (address : ℕ) (id : List ℕ) → length id ≡ 0 → true ≡ option_map_or (bytes_eq id) (bytes_at memory address (length id)) true
empty_agrees memory address [] e = sym (nothing_agrees memory address)
empty_agrees memory address (byte ∷ id) e = absurd (omega (e, arith))

pub returns-then-is_empty-clause-agrees : goal.returns-then-is_empty-clause-agrees
unfolding descriptor_agrees
returns-then-is_empty-clause-agrees c =
    let n = note_view c.args.note.now in
    let none : length n.descriptor.left ≡ 0 = eqb-true (length n.descriptor.left) 0 (sym c.is_empty.ensures ∙ c.if-is_empty.true) in
    empty_agrees (file_regions (map_file c.args.memory.now)) (descriptor_address (program_bytes c.args.elf.now) c.args.base c.args.i n) n.descriptor.left none
