use Rattle.std.proofs.Common.{◌≡◌, ◌++◌, length, map, true}
use Rattle.eh_records.specs.LastCie.{IsLastCie}
use Rattle.eh_records.specs.Section.{are_read, records_from, records_of, entries_before, pointer_fields}
use Rattle.eh_records.specs.Step.{reader_cursor, pointer_view}
use Rattle.eh_records.proofs.records.Records.fields.Given as goal

abbrev pub invariant-loop-entry : goal.invariant-loop-entry
invariant-loop-entry l = record {
  same : map pointer_view l.fields.items ++ pointer_fields (entries_before l.self.arch l.self.bytes.now (records_from (reader_cursor l.rest)))
      ≡ pointer_fields (entries_before l.self.arch l.self.bytes.now (records_of l.self.bytes.now));
  last : IsLastCie l.self.arch l.self.bytes.now l.last;
  read : are_read l.self.arch l.self.bytes.now (records_from (reader_cursor l.rest)) ≡ true;
}

abbrev pub decreases-loop-entry : goal.decreases-loop-entry
decreases-loop-entry l = length (entries_before l.self.arch l.self.bytes.now (records_from (reader_cursor l.rest)))
