-- What was read of a core file is a part of it.
use Rattle.std.proofs.Common.{List, subst, sym}
use Rattle.sf_model.specs.Memory.{Region}
use Rattle.core_notes.specs.Memory.{file_regions}
use Rattle.core_walk.specs.PartWalk.{IsPartOf}
use Rattle.core_parts.specs.declared.input_memory.InputMemory.{InputMemory}
use Rattle.core_parts.specs.declared.input_memory.InputMemory.TheVariants.{Whole, Parts}
use Rattle.core_parts.specs.declared.partial_core.PartialCore.{PartialCore}
use Rattle.core_parts.specs.Input.{memory_file, regions_in}
use Rattle.core_parts.specs.Partial.{partial_file}
use Rattle.core_parts.specs.Read.{regions_read}
use Rattle.core_parts.specs.Whole.{IsWholeOf}
use Rattle.core_parts.proofs.Windows.{file_memory_is}

pub is_whole_of : (partial : PartialCore) → IsWholeOf partial.core.file (partial_file partial)
is_whole_of partial = record { len = partial.sized; are = partial.slices }

pub reads_are_part : (partial : PartialCore) → IsPartOf (regions_read partial.core.head.heads.items partial.core.file.parts.items) (file_regions (partial_file partial))
reads_are_part partial =
    file_memory_is (partial_file partial) partial.core.head.heads.items partial.core.file.parts.items (partial.core.segments_are (partial_file partial) (is_whole_of partial)) partial.core.rise partial.slices

pub input_is_part : (memory : InputMemory) → IsPartOf (regions_in memory) (file_regions (memory_file memory))
input_is_part (Whole memory) = λ address value e. e
input_is_part (Parts memory) =
    subst (λ (regions : List Region). IsPartOf regions (file_regions (partial_file memory.core.now))) (sym memory.blocks_are) (reads_are_part memory.core.now)
