use Rattle.std.proofs.Common.{ap, map, ◌∙◌}
use Rattle.sf_bytes.proofs.Inside.{end_of}
use Rattle.sf_bytes.specs.Cursor.{Cursor}
use Rattle.eh_records.specs.Records.{start}
use Rattle.eh_records.specs.Section.{are_read, records_from, entries_before, pointer_fields}
use Rattle.eh_records.specs.Step.{pointer_view}
use Rattle.eh_records.proofs.Faults.{each_read}
use Rattle.eh_records.proofs.FieldsInOrder.{LieIn, rising, apart}
use Rattle.eh_records.proofs.Rising.{listed_lie, lie_raw}
use Rattle.eh_records.proofs.records.Records.fields.Goals as goal

pub loop-entry-init : goal.loop-entry-init
loop-entry-init c = record {
  same = rw c.new-fields.ensures.items (ap (λ (at : Cursor). pointer_fields (entries_before c.args.self.now.arch c.args.self.now.bytes.now (records_from at))) c.from_place-rest.ensures);
  last = λ k e. cc;
  read = ap (λ (at : Cursor). are_read c.args.self.now.arch c.args.self.now.bytes.now (records_from at)) c.from_place-rest.ensures ∙ each_read c.args.self.now.arch c.args.self.now.bytes.now c.args.self.now.whole;
}

pub returns-clause-rise : goal.returns-clause-rise
returns-clause-rise c =
    let h : LieIn (start c.args.self.now.bytes.now) (map pointer_view c.loop-entry.fields.items) = listed_lie c.args.self.now.arch c.args.self.now.bytes.now _ _ c.args.self.now.whole c.loop-entry.invariant.same c.in_default.ensures.gives.0 in
    rising 0 (end_of (start c.args.self.now.bytes.now)) c.loop-entry.fields.items h.between

pub returns-clause-apart : goal.returns-clause-apart
returns-clause-apart c =
    let h : LieIn (start c.args.self.now.bytes.now) (map pointer_view c.loop-entry.fields.items) = listed_lie c.args.self.now.arch c.args.self.now.bytes.now _ _ c.args.self.now.whole c.loop-entry.invariant.same c.in_default.ensures.gives.0 in
    apart 0 (end_of (start c.args.self.now.bytes.now)) c.loop-entry.fields.items h.between

pub returns-clause-raw : goal.returns-clause-raw
returns-clause-raw c =
    lie_raw c.args.self.now.bytes.now (map pointer_view c.loop-entry.fields.items) (listed_lie c.args.self.now.arch c.args.self.now.bytes.now _ _ c.args.self.now.whole c.loop-entry.invariant.same c.in_default.ensures.gives.0)
