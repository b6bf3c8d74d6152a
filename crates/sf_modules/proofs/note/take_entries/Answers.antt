use Rattle.std.specs.Prelude.{is_some, map}
use Rattle.std.specs.Option.{option_map}
use Rattle.std.proofs.Common.{◌≡◌, ◌-◌, ◌++◌, ◌∷◌, [], ℕ, List, Option, Some, true, false, Bor, sym, ap, ◌∙◌}
use Rattle.std.proofs.lemmas.List.{map-append}
use Rattle.std.proofs.lemmas.Result.{err_from_is_err_and}
use Rattle.sf_bytes.specs.Cursor.{cursor}
use Rattle.elf_read.specs.Checking.{each_below}
use Rattle.elf_read.proofs.Each.{each_below-more, each_below-none, each_below-stop}
use Rattle.sf_modules.specs.declared.entry.Entry.{Entry}
use Rattle.sf_modules.specs.Entry.{EntryView, mapping_view}
use Rattle.sf_modules.specs.Note.{file_entry_check, file_entry_count, names_part}
use Rattle.sf_modules.specs.TextsRead.{text_front, texts_in}
use Rattle.sf_modules.proofs.NamesRead.{texts_some}
use Rattle.sf_modules.proofs.Faults.{answers_fault}
use Rattle.sf_modules.proofs.Texts.{entries-all, entries-next, has-next, texts-start, texts-stop, with_left}
use Rattle.sf_modules.proofs.note.take_entries.Goals as goal

-- a text as it is lent
abbrev lent : Option (Bor (List ℕ) × Bor (List ℕ)) → Option (List ℕ × List ℕ)
lent o = option_map (λ (t : Bor (List ℕ) × Bor (List ℕ)). (t.0.now, t.1.now)) o

pub loop-k-init : goal.loop-k-init
loop-k-init c =
    let note = c.args.note.now.bytes.now in
    let rest = c.names_part-rest.result.now in
    let count = c.args.header.now.count in
    let start = texts-start note rest count c.requires.count c.names_part-rest.ensures in
    record {
      left = ap (λ (o : Option (List (List ℕ))). is_some o) start ∙ texts_some (file_entry_count note) (names_part note) ∙ c.requires.names;
      passed = each_below-none (file_entry_check (cursor c.args.note.now));
      so_far = ap (λ (es : List Entry). with_left note (map mapping_view es) 0 (texts_in (count - 0) rest)) c.in_ok-entries.ensures.items ∙ ap (with_left note [] 0) start;
    }

pub unreachable-requires : goal.unreachable-requires
unreachable-requires c =
    let stop = texts-stop c.args.header.now.count c.loop-k.k c.loop-k.rest.now c.loop-k-test.true (sym (ap lent c.in-None.is) ∙ c.text_front.ensures) in
    let no : false ≡ true = sym (ap (λ (o : Option (List (List ℕ))). is_some o) stop) ∙ c.loop-k.invariant.left in
    absurd (cc)

pub returns-in_err-entry-clause-check : goal.returns-in_err-entry-clause-check
returns-in_err-entry-clause-check c =
    let check = each_below (file_entry_count c.args.note.now.bytes.now) (file_entry_check (cursor c.args.note.now)) in
    let stop = each_below-stop c.args.header.now.count c.loop-k.k (file_entry_check (cursor c.args.note.now)) c.in_err-entry.field-0.0 c.loop-k-test.true c.loop-k.invariant.passed (sym c.in_err-entry.ensures.check) in
    let p = err_from_is_err_and c.from_residual-in_err-entry.result c.from_residual-in_err-entry.ensures.1 in
    rw (p.1, p.2) (answers_fault check c.in_err-entry.field-0.0 (ap (λ (n : ℕ). each_below n (file_entry_check (cursor c.args.note.now))) (sym c.requires.count) ∙ stop))

pub loop-k-preserved : goal.loop-k-preserved
loop-k-preserved c =
    let note = c.args.note.now.bytes.now in
    let count = c.args.header.now.count in
    let k = c.loop-k.k in
    let text = c.in-Some.front in
    let front : Some (text.0.now, text.1.now) ≡ text_front c.loop-k.rest.now = sym (ap lent c.in-Some.is) ∙ c.text_front.ensures in
    let entries = c.loop-k.entries.items in
    record {
      left = sym (has-next count k c.loop-k.rest.now text.0.now text.1.now c.loop-k-test.true front) ∙ c.loop-k.invariant.left;
      passed = each_below-more k (file_entry_check (cursor c.args.note.now)) c.loop-k.invariant.passed (sym c.in_ok-entry.ensures.check);
      so_far =
          entries-next note (map mapping_view entries) (map mapping_view c.push.new.self.items) count k c.loop-k.rest.now text.0.now text.1.now c.loop-k-test.true front
          (ap (map mapping_view) c.in_ok-push.ensures.items ∙ map-append mapping_view entries (c.in_ok-entry.entry ∷ []) ∙ ap (λ (e : EntryView). map mapping_view entries ++ e ∷ []) c.in_ok-entry.ensures.value)
          c.loop-k.invariant.so_far;
    }

pub returns-clause-value : goal.returns-clause-value
returns-clause-value c =
    entries-all c.args.note.now.bytes.now (map mapping_view c.loop-k.entries.items) c.args.header.now.count c.loop-k.k c.loop-k.rest.now c.loop-k-test.false c.loop-k.invariant.so_far
