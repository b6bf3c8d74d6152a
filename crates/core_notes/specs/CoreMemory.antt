-- The memory of a core file that was put in order.
use Rattle.std.specs.Prelude.{ℕ, List}
use Rattle.sf_model.specs.Memory.{Region}
use Rattle.core_notes.specs.declared.core_memory.CoreMemory.{CoreMemory}
use Rattle.core_notes.specs.Views.{core_bytes, memory_of}

-- the memory of the core file
abbrev pub memory_in : CoreMemory → List Region
memory_in memory = memory_of memory.core

-- the bytes of the core file
abbrev pub bytes_in : CoreMemory → List ℕ
bytes_in memory = core_bytes memory.core
