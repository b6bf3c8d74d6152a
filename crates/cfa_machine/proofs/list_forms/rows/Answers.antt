use Rattle.std.proofs.Common.{◌<◌, ◌^◌, w64, FitsSigned, rules}
use Rattle.std.proofs.lemmas.Int.{to_z-of_z}
use Rattle.sf_bytes.specs.Cursor.{cursor}
use Rattle.cfa_insn.specs.Listing.{listing}
use Rattle.cfa_machine.proofs.GoodRows.{rows_by-are_rows, answers_are_rows}
use Rattle.cfa_machine.proofs.RowsMatch.{rows_by-say, answers_say}
use Rattle.cfa_machine.proofs.Faults.{rows_by-fault, answers_fault}
use Rattle.cfa_machine.proofs.Starts.{answers_start}
use Rattle.cfa_machine.proofs.list_forms.rows.Goals as goal

pub returns-clause-rows : goal.returns-clause-rows
returns-clause-rows c =
    let fits : FitsSigned w64 c.args.data_alignment_factor = c.ranges.data_alignment_factor in
    answers_are_rows _ _ _ _ (simp to_z-of_z at c.pass.ensures) (rows_by-are_rows _ _ _ _ _ _)

pub returns-clause-at : goal.returns-clause-at
returns-clause-at c =
    let fits : FitsSigned w64 c.args.data_alignment_factor = c.ranges.data_alignment_factor in
    let small : c.args.size < 2 ^ 64 = search rules in
    answers_say _ _ _ _ _ _ _ _ (simp to_z-of_z at c.pass.ensures) (rows_by-say _ _ _ _ _ _ small)

pub returns-clause-fault : goal.returns-clause-fault
returns-clause-fault c =
    let fits : FitsSigned w64 c.args.data_alignment_factor = c.ranges.data_alignment_factor in
    answers_fault _ _ _ _ (simp to_z-of_z at c.pass.ensures) (rows_by-fault c.args.arch c.args.code_alignment_factor _ c.args.size _ _)

pub returns-clause-starts : goal.returns-clause-starts
returns-clause-starts c =
    let fits : FitsSigned w64 c.args.data_alignment_factor = c.ranges.data_alignment_factor in
    let small : c.args.size < 2 ^ 64 = search rules in
    answers_start c.args.arch _ _ _ (listing (cursor c.args.cie)) _ _ small (simp to_z-of_z at c.pass.ensures)
