use Rattle.sf_link_c.specs.Omissions.{plt_shown}
use Rattle.sf_link_c.proofs.Listing.{Written}
use Rattle.sf_link_c.proofs.omissions.write_plts.Given as goal

abbrev pub invariant-loop-i : goal.invariant-loop-i
invariant-loop-i l = Written plt_shown l.plts l.i l.room l.fn.room
