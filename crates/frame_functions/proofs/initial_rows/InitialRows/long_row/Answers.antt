use Rattle.std.proofs.Common.{rules, ◌≡◌, Some, ap, sym, ◌∙◌}
use Rattle.std.specs.BTreeMap.{get}
use Rattle.std.specs.Option.{option_copied}
use Rattle.std.specs.Ordering.{nat_cmp}
use Rattle.sf_bytes.specs.Cursor.{cursor}
use Rattle.cfa_insn.specs.Listing.{listing}
use Rattle.cfa_machine.specs.Initial.{IsInitial}
use Rattle.frame_functions.specs.InitialRows.{IsInitialAt}
use Rattle.frame_functions.proofs.KeptRows.{row_of_entry, row_of_instructions, with_row}
use Rattle.frame_functions.proofs.initial_rows.InitialRows.long_row.Goals as goal

pub returns-in-Some-clause-row : goal.returns-in-Some-clause-row
returns-in-Some-clause-row c =
    let kept : get nat_cmp c.args.self.now.long c.args.cie.place ≡ Some c.in-Some.row.now = sym c.get.ensures.value ∙ ap option_copied c.in-Some.is in
    let at = c.requires.are.long c.args.cie.place c.in-Some.row.now kept in
    row_of_instructions c.args.section.now.arch _ c.args.cie.factor (cursor c.args.cie.insns) c.in-Some.row.now c.requires.named at

pub returns-clause-are : goal.returns-clause-are
returns-clause-are c =
    let section = c.args.section.now in
    let made : IsInitial section.arch c.args.cie.factor (listing (cursor c.args.cie.insns)) c.in_ok-row.row = search rules in
    let own : IsInitialAt section.arch section.bytes.now c.args.cie.place c.in_ok-row.row = row_of_entry section.arch _ c.args.cie.factor (cursor c.args.cie.insns) c.in_ok-row.row c.requires.named made in
    record {
      last = c.requires.are.last;
      long = with_row section.arch section.bytes.now c.args.cie.place c.in_ok-row.row c.args.self.now.long c.insert.new.self c.requires.are.long c.in_ok-insert.ensures.updates own;
    }
