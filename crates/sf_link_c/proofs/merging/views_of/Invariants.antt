use Rattle.std.proofs.Common.{◌≡◌, map, take}
use Rattle.std.specs.Prelude.{filter_map}
use Rattle.sf_decode.specs.Kept.{table_lent}
use Rattle.sf_decode.specs.View.{table_of}
use Rattle.sf_link_c.proofs.merging.views_of.Given as goal

abbrev pub invariant-loop-section : goal.invariant-loop-section
invariant-loop-section l = map table_of l.views.items ≡ filter_map table_lent (take l.section-index l.sections)
