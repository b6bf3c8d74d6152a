use Rattle.std.proofs.Common.{sym, subst}
use Rattle.elf_read.specs.Compressed.{NoneIsCompressed}
use Rattle.elf_read.proofs.LeastCompressed.{none_is_compressed}
use Rattle.elf_read.proofs.Rules.{compressed_is}
use Rattle.elf_read.proofs.laws.compressed_law.Goals as goal

pub returns : goal.returns
returns c = subst (NoneIsCompressed c.args.file.now) (sym (compressed_is c.args.file.now)) (none_is_compressed c.args.file.now)
