use Rattle.std.proofs.Common.{All, List, Result}
use Rattle.std.specs.Prelude.{IsTrue}
use Rattle.sf_model.specs.Function.{key_fits}
use Rattle.eh_records.specs.Fde.{FdeView}
use Rattle.eh_records.specs.Named.{HasNamed}
use Rattle.eh_records.specs.Section.{frames}
use Rattle.eh_records.specs.View.{entries, frames_left}
use Rattle.elf_reloc.specs.declared.fault.RelocFault.{RelocFault}
use Rattle.elf_reloc.specs.declared.fix.RelocatedField.{RelocatedField}
use Rattle.frame_functions.specs.Functions.{functions_in}
use Rattle.frame_functions.specs.InitialRows.{AreInitial}
use Rattle.frame_functions.specs.ReadSoFar.{AreNumberedIn, AreSound}
use Rattle.frame_functions.specs.Views.{overlaid, seen_section, written_by}
use Rattle.frame_functions.proofs.ReadSoFar.{GoesOn}
use Rattle.frame_functions.proofs.section.read_frames.Given as goal

abbrev pub invariant-loop-fde : goal.invariant-loop-fde
invariant-loop-fde l = record {
  sound : AreSound l.section.arch l.fn.read → AreSound l.section.arch l.read;
  keys : All (λ (f : FdeView). IsTrue (key_fits l.section.arch f.cie.key)) (frames_left l.fde-iterator);
  named : All (HasNamed l.section.arch l.section.bytes.now) (frames_left l.fde-iterator);
  initials : AreInitial l.section.arch l.section.bytes.now l.initials;
  numbered : AreNumberedIn l.section.arch l.section.bytes.now l.numbers l.read;
  reads : (relocations : Result (List RelocatedField) RelocFault)
      → GoesOn l.lending l.fn.read l.read
      (functions_in l.section.arch l.section.item (seen_section l.section relocations) (overlaid (written_by l.overlay)) (frames_left l.fde-iterator))
      (functions_in l.section.arch l.section.item (seen_section l.section relocations) (overlaid (written_by l.overlay)) (frames (entries l.records)));
}
