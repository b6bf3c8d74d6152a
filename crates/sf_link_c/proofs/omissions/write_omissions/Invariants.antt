use Rattle.sf_link_c.specs.Omissions.{omission_shown}
use Rattle.sf_link_c.proofs.Listing.{Written}
use Rattle.sf_link_c.proofs.omissions.write_omissions.Given as goal

abbrev pub invariant-loop-i : goal.invariant-loop-i
invariant-loop-i l = Written omission_shown l.omitted l.i l.room l.fn.room
