use Rattle.elf_reloc.proofs.Applying.{alike, applied, first_applied, first_misplaced, refused}
use Rattle.elf_reloc.proofs.laws.relocations_are_applied.Goals as goal

pub returns : goal.returns
returns c = record {
  applied = λ p section fixes fields reads checked. (applied p section fixes fields reads checked, first_applied p section fixes fields reads checked);
  misplaced = λ p section fixes fields e reads checked. first_misplaced p section fixes fields e reads checked;
  alike = λ p section fields apart. alike p section fields apart;
  refused = λ p section slots e h. refused p section slots e h;
}
