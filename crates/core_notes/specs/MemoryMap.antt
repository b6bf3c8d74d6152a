-- The memory of a core file that was put in order to find what is at an address.
use Rattle.std.specs.Prelude.{ℕ, List}
use Rattle.core_notes.specs.declared.memory_map.MemoryMap.{MemoryMap}
use Rattle.core_notes.specs.CoreMemory.{bytes_in}

-- the core file's bytes
abbrev pub core_in : MemoryMap → List ℕ
core_in m = bytes_in m.memory
