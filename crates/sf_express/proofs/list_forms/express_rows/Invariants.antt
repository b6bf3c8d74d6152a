use Rattle.std.proofs.Common.{◌≡◌, drop, None}
use Rattle.sf_express.specs.Expressed.{expressed_rows}
use Rattle.sf_express.proofs.Kept.{after_kept}
use Rattle.sf_express.proofs.list_forms.express_rows.Given as goal

abbrev pub invariant-loop-row : goal.invariant-loop-row
invariant-loop-row l = after_kept l.kept (expressed_rows l.arch l.last (drop l.row-index l.rows)) ≡ expressed_rows l.arch None l.rows
