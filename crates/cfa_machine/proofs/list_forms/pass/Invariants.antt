use Rattle.std.proofs.Common.{◌≡◌}
use Rattle.sf_bytes.specs.Cursor.{cursor}
use Rattle.cfa_insn.specs.Listing.{listing}
use Rattle.cfa_machine.specs.Left.{rows_left, steps_left}
use Rattle.cfa_machine.specs.Pass.{rows_by}
use Rattle.cfa_machine.proofs.InstructionLoops.{after_rows}
use Rattle.cfa_machine.proofs.list_forms.pass.Given as goal

abbrev pub invariant-loop-rows : goal.invariant-loop-rows
invariant-loop-rows l = after_rows l.rows.items (rows_left l.run) ≡ rows_by l.fn.arch l.fn.code_alignment_factor l.fn.data_alignment_factor l.fn.size (listing (cursor l.fn.cie)) (listing (cursor l.fn.fde))

abbrev pub decreases-loop-rows : goal.decreases-loop-rows
decreases-loop-rows l = steps_left l.run
