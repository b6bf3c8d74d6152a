use Rattle.std.proofs.Common.{◌≡◌, ◌≤◌}
use Rattle.sf_bytes.specs.Cursor.{cursor}
use Rattle.cfa_insn.specs.Listing.{listing}
use Rattle.cfa_insn.specs.Remaining.{items_left}
use Rattle.sf_plt.specs.Plt.{without_nops}
use Rattle.sf_plt.specs.Text.{follows}
use Rattle.sf_plt.proofs.text.follows.Given as goal

abbrev pub invariant-loop-item : goal.invariant-loop-item
invariant-loop-item l = record {
  small : l.place ≤ 5;
  left : follows l.place (without_nops (items_left l.item-iterator)) ≡ follows 0 (without_nops (listing (cursor l.fn.own)));
}
