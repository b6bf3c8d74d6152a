-- A core file that was checked, read whole or by parts (ELF64 gABI, "Program Header"; Linux core files).
use Rattle.std.specs.Prelude.{ℕ, Bool, true, false, List}
use Rattle.sf_model.specs.declared.walk.Stop.{Stop}
use Rattle.sf_model.specs.Memory.{Region}
use Rattle.core_notes.specs.CoreMemory as whole
use Rattle.core_notes.specs.Memory.{file_regions}
use Rattle.core_notes.specs.MemoryMap.{core_in}
use Rattle.core_notes.specs.Views.{core_bytes}
use Rattle.core_walk.specs.PartWalk.{MissedNothing}
use Rattle.core_parts.specs.declared.input.CoreInput.{CoreInput}
use Rattle.core_parts.specs.declared.input.CoreInput.TheVariants as input
use Rattle.core_parts.specs.declared.input_map.InputMap.{InputMap}
use Rattle.core_parts.specs.declared.input_map.InputMap.TheVariants as maps
use Rattle.core_parts.specs.declared.input_memory.InputMemory.{InputMemory}
use Rattle.core_parts.specs.declared.input_memory.InputMemory.TheVariants as memories
use Rattle.core_parts.specs.Partial.{partial_file}
use Rattle.core_parts.specs.PartMemory.{part_regions}

-- all bytes of the core file
abbrev pub input_file : CoreInput → List ℕ
input_file (input.Whole core) = core_bytes core
input_file (input.Parts core) = partial_file core.now

-- whether only parts of it were read
abbrev pub is_by_parts : CoreInput → Bool
is_by_parts (input.Whole core) = false
is_by_parts (input.Parts core) = true

-- ---- its memory
-- the memory as far as it was read
abbrev pub regions_in : InputMemory → List Region
regions_in (memories.Whole memory) = whole.memory_in memory
regions_in (memories.Parts memory) = part_regions memory.memory

-- the bytes of the core file that has the memory
abbrev pub memory_file : InputMemory → List ℕ
memory_file (memories.Whole memory) = whole.bytes_in memory
memory_file (memories.Parts memory) = partial_file memory.core.now

-- whether only parts of it were read
abbrev pub is_part : InputMemory → Bool
is_part (memories.Whole memory) = false
is_part (memories.Parts memory) = true

-- what was read of the memory is enough for a walk that stopped so
abbrev pub IsEnough : InputMemory → Stop → Type 0
IsEnough (memories.Whole memory) stop = Unit {0}
IsEnough (memories.Parts memory) stop = MissedNothing (file_regions (partial_file memory.core.now)) stop

-- ---- its memory, put in order to find what is at an address
-- the bytes of the core file
abbrev pub map_file : InputMap → List ℕ
map_file (maps.Whole memory) = core_in memory
map_file (maps.Parts map) = partial_file map.memory.core.now

-- whether only parts of it were read
abbrev pub is_map_of_parts : InputMap → Bool
is_map_of_parts (maps.Whole memory) = false
is_map_of_parts (maps.Parts map) = true
