use Rattle.std.proofs.Common.{ap, ◌∙◌}
use Rattle.sf_bytes.specs.Cursor.{Cursor}
use Rattle.eh_records.specs.Section.{are_read, records_from}
use Rattle.eh_records.proofs.Faults.{each_read}
use Rattle.eh_records.proofs.iter.FdeIter.new.Goals as goal

pub invariant_of-result-clause-read : goal.invariant_of-result-clause-read
invariant_of-result-clause-read c =
    ap (λ (at : Cursor). are_read c.args.arch c.args.section.now (records_from at)) c.from_place.ensures ∙ each_read c.args.arch c.args.section.now c.requires.whole
