use Rattle.std.proofs.Common.{sym, ◌∙◌}
use Rattle.std.proofs.lemmas.Result.{err_from_is_err_and}
use Rattle.core_notes.specs.Listing.{notes_remaining}
use Rattle.core_notes.specs.Note.{note_view}
use Rattle.core_notes.proofs.Checked.{all_counted, cut_counted, last_counted, other_counted, status_counted, wrong_counted}
use Rattle.core_notes.proofs.Threaded.{to_cut, to_note}
use Rattle.core_notes.proofs.parsing.count_threads.Goals as goal

pub returns-in-Err-clause-check : goal.returns-in-Err-clause-check
returns-in-Err-clause-check c =
    let items = notes_remaining c.loop-item.item-iterator in
    let rest = notes_remaining c.next.new.self in
    cut_counted c.args.arch c.loop-item.threads items rest (notes_remaining c.args.notes) c.in-Err.place c.loop-item.invariant (to_cut items rest c.in-Some.item c.in-Err.place c.in-Some.ensures.steps c.in-Err.is)

pub returns-in_err-check_note-clause-check : goal.returns-in_err-check_note-clause-check
returns-in_err-check_note-clause-check c =
    let items = notes_remaining c.loop-item.item-iterator in
    let rest = notes_remaining c.next.new.self in
    let p = err_from_is_err_and c.from_residual.result c.from_residual.ensures.1 in
    rw (p.1, p.2)
    (wrong_counted c.args.arch c.loop-item.threads items rest (notes_remaining c.args.notes) (note_view c.in-Ok.note) c.in_err-check_note.field-0.0 c.loop-item.invariant
    (to_note items rest c.in-Some.item c.in-Ok.note c.in-Some.ensures.steps c.in-Ok.is) (sym c.in_err-check_note.ensures))

pub returns-then-threads-gt-MAX_THREADS-clause-check : goal.returns-then-threads-gt-MAX_THREADS-clause-check
returns-then-threads-gt-MAX_THREADS-clause-check c =
    let items = notes_remaining c.loop-item.item-iterator in
    let rest = notes_remaining c.next.new.self in
    (last_counted c.args.arch c.loop-item.threads items rest (notes_remaining c.args.notes) (note_view c.in-Ok.note) c.loop-item.invariant
    (to_note items rest c.in-Some.item c.in-Ok.note c.in-Some.ensures.steps c.in-Ok.is) (sym c.is_status.ensures ∙ c.if-is_status.true) (sym c.in_ok-check_note.ensures) c.if-threads-gt-MAX_THREADS.true).check

pub returns-then-threads-gt-MAX_THREADS-clause-count : goal.returns-then-threads-gt-MAX_THREADS-clause-count
returns-then-threads-gt-MAX_THREADS-clause-count c =
    let items = notes_remaining c.loop-item.item-iterator in
    let rest = notes_remaining c.next.new.self in
    (last_counted c.args.arch c.loop-item.threads items rest (notes_remaining c.args.notes) (note_view c.in-Ok.note) c.loop-item.invariant
    (to_note items rest c.in-Some.item c.in-Ok.note c.in-Some.ensures.steps c.in-Ok.is) (sym c.is_status.ensures ∙ c.if-is_status.true) (sym c.in_ok-check_note.ensures) c.if-threads-gt-MAX_THREADS.true).count

pub loop-item-preserved-else-threads-gt-MAX_THREADS : goal.loop-item-preserved-else-threads-gt-MAX_THREADS
loop-item-preserved-else-threads-gt-MAX_THREADS c =
    let items = notes_remaining c.loop-item.item-iterator in
    let rest = notes_remaining c.next.new.self in
    status_counted c.args.arch c.loop-item.threads items rest (notes_remaining c.args.notes) (note_view c.in-Ok.note) c.loop-item.invariant
    (to_note items rest c.in-Some.item c.in-Ok.note c.in-Some.ensures.steps c.in-Ok.is) (sym c.is_status.ensures ∙ c.if-is_status.true) (sym c.in_ok-check_note.ensures) c.if-threads-gt-MAX_THREADS.false

pub loop-item-preserved : goal.loop-item-preserved
loop-item-preserved c =
    let items = notes_remaining c.loop-item.item-iterator in
    let rest = notes_remaining c.next.new.self in
    other_counted c.args.arch c.loop-item.threads items rest (notes_remaining c.args.notes) (note_view c.in-Ok.note) c.loop-item.invariant
    (to_note items rest c.in-Some.item c.in-Ok.note c.in-Some.ensures.steps c.in-Ok.is) (sym c.is_status.ensures ∙ c.if-is_status.false) (sym c.in_ok-check_note.ensures)

pub returns-clause-check : goal.returns-clause-check
returns-clause-check c =
    let items = notes_remaining c.loop-item.item-iterator in
    (all_counted c.args.arch c.loop-item.threads items (notes_remaining c.args.notes) c.loop-item.invariant c.in-None.ensures.steps.0).check

pub returns-clause-count : goal.returns-clause-count
returns-clause-count c =
    let items = notes_remaining c.loop-item.item-iterator in
    (all_counted c.args.arch c.loop-item.threads items (notes_remaining c.args.notes) c.loop-item.invariant c.in-None.ensures.steps.0).count
