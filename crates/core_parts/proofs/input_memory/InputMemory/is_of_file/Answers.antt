use Rattle.core_parts.proofs.InputParts.{input_is_part}
use Rattle.core_parts.proofs.input_memory.InputMemory.is_of_file.Goals as goal

pub returns : goal.returns
returns c = input_is_part c.args.self.now
