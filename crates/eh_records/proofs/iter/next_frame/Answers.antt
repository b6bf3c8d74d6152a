use Rattle.std.proofs.Common.{◌≡◌, true, false, ap, sym, ◌∙◌, rules}
use Rattle.std.specs.Prelude.{◌==◌}
use Rattle.eh_records.specs.RawRecord.{raw_record_view}
use Rattle.sf_bytes.specs.Cursor.{Cursor}
use Rattle.eh_records.specs.Section.{records_from, entries_before, frames}
use Rattle.eh_records.specs.Step.{reader_cursor}
use Rattle.eh_records.proofs.FirstEntry.{behind_frame, frame_read, next_is_split, none_at_end, passes_common, passes_frame}
use Rattle.eh_records.proofs.iter.next_frame.Goals as goal

pub next_raw_record-requires : goal.next_raw_record-requires
next_raw_record-requires c = next_is_split c.args.arch c.args.section.now (reader_cursor c.loop-raw.rest) c.loop-raw.invariant.read

pub returns-then-not-is_cie-clause-read : goal.returns-then-not-is_cie-clause-read
returns-then-not-is_cie-clause-read c =
    let frame : (c.in-Some.raw.id == 0) ≡ false = search rules in
    behind_frame c.args.arch c.args.section.now _ (raw_record_view c.in-Some.raw) _ c.loop-raw.invariant.read c.in-Some.ensures.gives frame

pub returns-then-not-is_cie-clause-gives : goal.returns-then-not-is_cie-clause-gives
returns-then-not-is_cie-clause-gives c =
    let frame : (c.in-Some.raw.id == 0) ≡ false = search rules in (
      frame_read c.args.arch c.args.section.now _ (raw_record_view c.in-Some.raw) _ c.loop-raw.invariant.read c.in-Some.ensures.gives frame,
      λ f is. sym c.loop-raw.invariant.same ∙ (passes_frame c.args.arch c.args.section.now _ (raw_record_view c.in-Some.raw) _ f c.loop-raw.invariant.read c.in-Some.ensures.gives frame is).0,
    )

pub loop-raw-preserved : goal.loop-raw-preserved
loop-raw-preserved c =
    let common : (c.in-Some.raw.id == 0) ≡ true = search rules in
    let passed = passes_common c.args.arch c.args.section.now _ (raw_record_view c.in-Some.raw) _ c.loop-raw.invariant.read c.in-Some.ensures.gives common in
    record { same = sym passed.0 ∙ c.loop-raw.invariant.same; read = passed.1 }

pub returns-clause-gives : goal.returns-clause-gives
returns-clause-gives c =
    let none = ap frames (none_at_end c.args.arch c.args.section.now (reader_cursor c.loop-raw.rest) c.in_default.ensures.gives.0) in
    let left = ap (λ (at : Cursor). frames (entries_before c.args.arch c.args.section.now (records_from at))) c.in_default.ensures.gives.1 in
    (sym c.loop-raw.invariant.same ∙ none, left ∙ none)
