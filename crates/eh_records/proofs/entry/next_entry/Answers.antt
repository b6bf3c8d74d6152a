use Rattle.std.proofs.Common.{◌≡◌, []}
use Rattle.eh_records.specs.RawRecord.{raw_record_view}
use Rattle.eh_records.specs.Section.{entries_before, records_from}
use Rattle.eh_records.specs.Step.{reader_cursor}
use Rattle.eh_records.proofs.FirstEntry.{none_at_end, begins, is_split, is_read, read_behind}
use Rattle.eh_records.proofs.entry.next_entry.Goals as goal

pub returns-in-Ok-clause-gives : goal.returns-in-Ok-clause-gives
returns-in-Ok-clause-gives c =
    let split_read = rw c.in-Ok-Some.field-0-is at c.in-Ok-Some.ensures.exact in
    begins c.args.arch c.args.section.now (reader_cursor c.args.rest.now) (raw_record_view c.in-Ok-Some.raw) (reader_cursor c.next_record.new.rest) _ split_read c.in-Ok.ensures.is

pub returns-in-Ok-None-clause-gives : goal.returns-in-Ok-None-clause-gives
returns-in-Ok-None-clause-gives c =
    let split_read = rw c.in-Ok-None.field-0-is at c.in-Ok-None.ensures.exact in
    let none : entries_before c.args.arch c.args.section.now (records_from (reader_cursor c.args.rest.now)) ≡ [] = none_at_end c.args.arch c.args.section.now (reader_cursor c.args.rest.now) split_read in
    (none, none)

pub returns-in-Ok-clause-read : goal.returns-in-Ok-clause-read
returns-in-Ok-clause-read c =
    let split_read = rw c.in-Ok-Some.field-0-is at c.in-Ok-Some.ensures.exact in
    read_behind c.args.arch c.args.section.now (reader_cursor c.args.rest.now) (raw_record_view c.in-Ok-Some.raw) (reader_cursor c.next_record.new.rest) _ c.requires.read split_read c.in-Ok.ensures.is

pub unreachable-requires : goal.unreachable-requires
unreachable-requires c =
    let split_read = rw c.in-Ok-Some.field-0-is at c.in-Ok-Some.ensures.exact in
    is_read c.args.arch c.args.section.now (reader_cursor c.args.rest.now) (raw_record_view c.in-Ok-Some.raw) (reader_cursor c.next_record.new.rest) _ c.requires.read split_read c.in-Err-read_here.ensures.is

pub unreachable-requires-in-Err : goal.unreachable-requires-in-Err
unreachable-requires-in-Err c = is_split c.args.arch c.args.section.now (reader_cursor c.args.rest.now) _ c.requires.read c.in-Err.ensures.exact
