use Rattle.std.specs.Prelude.{◌==◌}
use Rattle.std.proofs.Common.{◌≡◌, ◌+◌, ◌<◌, [], length, Some, None, sym, ap, subst, inr, ◌∙◌, arith}
use Rattle.std.proofs.lemmas.Result.{err_from_is_err_and}
use Rattle.sf_bytes.specs.Cursor.{Cursor}
use Rattle.eh_records.specs.Records.{Stands}
use Rattle.eh_records.specs.RawRecord.{RawRecordView, raw_record_view}
use Rattle.eh_records.specs.Places.{IsRising, IsBefore}
use Rattle.eh_records.specs.Section.{entries_of, fault_if_any, with_place}
use Rattle.eh_records.specs.Step.{reader_cursor}
use Rattle.eh_records.proofs.RisingPlaces.{rising_with, before_with}
use Rattle.eh_records.proofs.Faults.{fault_from, begins, goes_on, refused, unsplit, ended, whole, is_whole, fault_is}
use Rattle.eh_records.proofs.RawRecords.{split_is}
use Rattle.eh_records.proofs.records.Records.parse.Goals as goal

pub loop-places-init : goal.loop-places-init
loop-places-init c = record {
  fault = rw c.new-places.ensures.items (ap (fault_from c.args.arch c.args.bytes.now []) c.from_place-rest.ensures ∙ begins c.args.arch c.args.bytes.now);
  rising = λ i j le within. absurd (omega (arith, ap length c.new-places.ensures.items));
  last = λ k e. cc;
  before = λ i within. absurd (omega (arith, ap length c.new-places.ensures.items));
}

pub returns-in_err-raw-clause-exact : goal.returns-in_err-raw-clause-exact
returns-in_err-raw-clause-exact c =
    let p = err_from_is_err_and c.from_residual.result c.from_residual.ensures.1 in
    let fault : fault_if_any (entries_of c.args.arch c.args.bytes.now) ≡ Some c.in_err-raw.field-0.0 =
    sym c.loop-places.invariant.fault ∙ unsplit c.args.arch c.args.bytes.now c.loop-places.places.items (reader_cursor c.loop-places.rest) c.in_err-raw.field-0.0 c.in_err-raw.ensures.exact in
    rw (p.1, p.2) (inr (fault_is _ _ fault))

pub returns-in_err-read_after-clause-exact : goal.returns-in_err-read_after-clause-exact
returns-in_err-read_after-clause-exact c =
    let p = err_from_is_err_and c.from_residual-in_err-read_after.result c.from_residual-in_err-read_after.ensures.1 in
    let split_read = rw c.in-Some.is at c.in_ok-raw.ensures.exact in
    let read = rw c.as_slice.ensures.value at c.in_err-read_after.ensures.is in
    let fault : fault_if_any (entries_of c.args.arch c.args.bytes.now) ≡ Some c.in_err-read_after.field-0.0 =
    sym c.loop-places.invariant.fault ∙ refused c.args.arch c.args.bytes.now c.loop-places.places.items (reader_cursor c.loop-places.rest) (raw_record_view c.in-Some.raw) (reader_cursor c.next_record.new.rest) c.in_err-read_after.field-0.0 split_read read in
    rw (p.1, p.2) (inr (fault_is _ _ fault))

pub loop-places-preserved : goal.loop-places-preserved
loop-places-preserved c =
    let split_read = rw c.in-Some.is at c.in_ok-raw.ensures.exact in
    let read = rw c.as_slice.ensures.value at c.in_ok-read_after.ensures.is in
    let raw : Stands (reader_cursor c.loop-places.rest) (raw_record_view c.in-Some.raw) (reader_cursor c.next_record.new.rest) = split_is (reader_cursor c.loop-places.rest) (raw_record_view c.in-Some.raw) (reader_cursor c.next_record.new.rest) split_read in
    let place : c.in-Some.raw.place ≡ c.loop-places.rest.part.place = ap (λ (q : RawRecordView). q.place) raw.raw_record_view in
    let end : c.next_record.new.rest.part.place ≡ c.loop-places.rest.part.place + (4 + raw.len) = ap (λ (at : Cursor). at.place) raw.behind in
    let further : c.in-Some.raw.place < c.next_record.new.rest.part.place = omega arith in
    let before : IsBefore c.in-Some.raw.place c.loop-places.places.items = rw place c.loop-places.invariant.before in
    let noted : c.note_place.new.places.items ≡ with_place c.loop-places.places.items (raw_record_view c.in-Some.raw) = c.in_ok-note_place.ensures.noted in
    record {
      fault = rw noted (sym (goes_on c.args.arch c.args.bytes.now c.loop-places.places.items (reader_cursor c.loop-places.rest) (raw_record_view c.in-Some.raw) (reader_cursor c.next_record.new.rest) _ split_read read) ∙ c.loop-places.invariant.fault);
      rising = subst IsRising (sym noted) (rising_with (c.in-Some.raw.id == 0) c.loop-places.places.items c.in-Some.raw.place c.loop-places.invariant.rising before);
      last = c.in_ok-read_after.ensures.last;
      before = subst (IsBefore c.next_record.new.rest.part.place) (sym noted) (before_with (c.in-Some.raw.id == 0) c.loop-places.places.items c.in-Some.raw.place c.next_record.new.rest.part.place before further);
    }

pub returns-clause-exact : goal.returns-clause-exact
returns-clause-exact c =
    let split_read = rw c.in_default.is at c.in_ok-raw.ensures.exact in
    let none : fault_if_any (entries_of c.args.arch c.args.bytes.now) ≡ None =
    sym c.loop-places.invariant.fault ∙ ended c.args.arch c.args.bytes.now c.loop-places.places.items (reader_cursor c.loop-places.rest) split_read in
    whole c.args.arch c.args.bytes.now none

pub invariant_of-result-clause-whole : goal.invariant_of-result-clause-whole
invariant_of-result-clause-whole c =
    let split_read = rw c.in_default.is at c.in_ok-raw.ensures.exact in
    let none : fault_if_any (entries_of c.args.arch c.args.bytes.now) ≡ None =
    sym c.loop-places.invariant.fault ∙ ended c.args.arch c.args.bytes.now c.loop-places.places.items (reader_cursor c.loop-places.rest) split_read in
    is_whole c.args.arch c.args.bytes.now none
