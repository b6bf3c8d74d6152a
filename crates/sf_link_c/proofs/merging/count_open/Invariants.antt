use Rattle.std.proofs.Common.{◌≡◌, ◌≤◌, length, take}
use Rattle.std.specs.Prelude.{filter_map}
use Rattle.sf_decode.specs.Kept.{table_lent}
use Rattle.sf_link_c.proofs.merging.count_open.Given as goal

abbrev pub invariant-loop-section : goal.invariant-loop-section
invariant-loop-section l = (l.count ≡ length (filter_map table_lent (take l.section-index l.sections))) × (l.count ≤ l.section-index)
