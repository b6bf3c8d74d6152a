use Rattle.std.proofs.Common.{refl}
use Rattle.cfa_insn.specs.Listing.{listing}
use Rattle.cfa_insn.proofs.Listed.{listed, stand_as_listed, one_listing}
use Rattle.cfa_insn.proofs.laws.listing_law.Goals as goal

pub returns : goal.returns
returns c = record {
  found = λ items at. listed items at;
  only = λ at. stand_as_listed (listing at) at refl;
  one = λ items others at. one_listing items others at;
}
