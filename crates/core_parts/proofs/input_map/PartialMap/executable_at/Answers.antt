use Rattle.std.proofs.Common.{◌∙◌}
use Rattle.core_notes.specs.MemoryBytes.{load_spans}
use Rattle.core_notes.proofs.Loads.{answers_executable}
use Rattle.core_parts.specs.Partial.{partial_file}
use Rattle.core_parts.proofs.input_map.PartialMap.executable_at.Goals as goal

pub returns : goal.returns
returns c =
    let file = partial_file c.args.self.now.memory.core.now in
    c.first_at.ensures (load_spans file) c.args.self.now.ordered ∙ answers_executable file c.args.address
