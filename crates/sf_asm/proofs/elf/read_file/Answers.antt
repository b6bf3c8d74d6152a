use Rattle.std.proofs.Common.{ℕ, List, subst}
use Rattle.elf_groups.specs.Groups.{seen_after}
use Rattle.elf_groups.specs.SeenSignatures.{HasSeen}
use Rattle.elf_groups.proofs.Signatures.{on_ok_more}
use Rattle.sf_asm.proofs.elf.read_file.Goals as goal

pub returns-clause-seen : goal.returns-clause-seen
returns-clause-seen c = on_ok_more c.read_checked.result c.read_checked.ensures.seen
    (λ all signatures has. subst (λ (file : List ℕ). HasSeen c.read_checked.new.seen (seen_after signatures file)) c.in_ok-elf.ensures.file (all signatures has))
