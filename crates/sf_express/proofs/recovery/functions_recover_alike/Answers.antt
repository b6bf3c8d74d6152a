use Rattle.cfa_machine.specs.RowAtOffset.{row_at_offset}
use Rattle.sf_express.proofs.Alike.{found_at_offset}
use Rattle.sf_express.proofs.recovery.functions_recover_alike.Goals as goal

pub returns : goal.returns
returns c = λ arch code factor size cie fde rows kept all same o below.
    found_at_offset arch (row_at_offset code factor cie fde o) rows kept o (all o below) (same o)
