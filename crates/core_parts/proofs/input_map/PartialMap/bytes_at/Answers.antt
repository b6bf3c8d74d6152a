use Rattle.std.proofs.Common.{◌≡◌, List, Some, sym, subst}
use Rattle.sf_model.specs.Memory.{Region}
use Rattle.core_notes.specs.MemoryBytes.{bytes_at}
use Rattle.core_parts.specs.Partial.{partial_file}
use Rattle.core_parts.proofs.InputParts.{is_whole_of}
use Rattle.core_parts.proofs.Windows.{file_bytes_are}
use Rattle.core_parts.proofs.input_map.PartialMap.bytes_at.Goals as goal

pub returns-in-Some : goal.returns-in-Some
returns-in-Some c =
    let memory = c.args.self.now.memory in
    let partial = memory.core.now in
    sym (file_bytes_are (partial_file partial) partial.core.head.heads.items partial.core.file.parts.items c.args.address c.args.len c.in-Some.bytes.now
    (partial.core.segments_are (partial_file partial) (is_whole_of partial)) c.in-Some.ensures.0 partial.core.rise partial.slices
    (subst (λ (regions : List Region). bytes_at regions c.args.address c.args.len ≡ Some c.in-Some.bytes.now) memory.blocks_are c.in-Some.ensures.1))
