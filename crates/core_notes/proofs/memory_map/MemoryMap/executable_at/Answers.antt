use Rattle.std.proofs.Common.{◌∙◌}
use Rattle.core_notes.specs.MemoryBytes.{load_spans}
use Rattle.core_notes.specs.MemoryMap.{core_in}
use Rattle.core_notes.proofs.Loads.{answers_executable}
use Rattle.core_notes.proofs.memory_map.MemoryMap.executable_at.Goals as goal

pub returns : goal.returns
returns c = c.first_at.ensures (load_spans (core_in c.args.self.now)) c.args.self.now.ordered ∙ answers_executable (core_in c.args.self.now) c.args.address
