use Rattle.std.proofs.Common.{◌≡◌, length, true}
use Rattle.eh_records.specs.Section.{are_read, records_from, entries_before, frames}
use Rattle.eh_records.specs.Step.{reader_cursor}
use Rattle.eh_records.proofs.iter.next_frame.Given as goal

abbrev pub invariant-loop-raw : goal.invariant-loop-raw
invariant-loop-raw l = record {
  same : frames (entries_before l.fn.arch l.section (records_from (reader_cursor l.rest))) ≡ frames (entries_before l.fn.arch l.section (records_from (reader_cursor l.initial.rest)));
  read : are_read l.fn.arch l.section (records_from (reader_cursor l.rest)) ≡ true;
}

abbrev pub decreases-loop-raw : goal.decreases-loop-raw
decreases-loop-raw l = length l.rest.part.bytes.now
