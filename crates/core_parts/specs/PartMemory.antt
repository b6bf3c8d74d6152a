-- The memory of a core file, as far as it was read, put in order.
use Rattle.std.specs.Prelude.{List, map}
use Rattle.sf_model.specs.Memory.{Region}
use Rattle.core_parts.specs.declared.memory.PartMemory.{PartMemory}
use Rattle.core_parts.specs.Read.{block_cursor, regions_by}

-- the memory as far as it was read
abbrev pub part_regions : PartMemory → List Region
part_regions m = regions_by m.heads.now (map block_cursor m.blocks.items)
