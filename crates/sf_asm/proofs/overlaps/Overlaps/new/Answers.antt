use Rattle.std.proofs.Common.{ap, sym}
use Rattle.std.specs.Option.{option_map}
use Rattle.sf_asm.specs.Linking.{overlap_fault}
use Rattle.sf_asm.proofs.OverlapLaws.{overlap_begins}
use Rattle.sf_asm.proofs.overlaps.Overlaps.new.Goals as goal

pub returns : goal.returns
returns c = λ spans. ap (option_map overlap_fault) (sym (overlap_begins spans))
