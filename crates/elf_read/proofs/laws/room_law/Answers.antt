use Rattle.elf_read.proofs.ReadSizes.{input_has_room}
use Rattle.elf_read.proofs.laws.room_law.Goals as goal

pub returns : goal.returns
returns c = input_has_room c.args.elf.now
