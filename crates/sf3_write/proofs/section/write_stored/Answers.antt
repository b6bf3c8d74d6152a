use Rattle.std.specs.List.{list_all}
use Rattle.std.proofs.Common.{◌≤◌, ◌+◌, ◌*◌, ◌∙◌, ℕ, IsTrue, List, Option, ap, sym, subst, arith, rules, length, map, IfErr}
use Rattle.sf_model.specs.declared.function.Func.{Func}
use Rattle.sf_model.specs.Section.{AreBytes}
use Rattle.sf_write.specs.Room.{entry_fits}
use Rattle.sf_write.specs.Section.{row_section_len}
use Rattle.sf_write.specs.Stored.{stored_in}
use Rattle.sf_write.proofs.NumbersFit.{short_functions}
use Rattle.sf_write.proofs.StoredEntries.{few_bytes, few_functions, few_rows, fits}
use Rattle.sf_write.proofs.StoredFunctions.{all_rows_fit}
use Rattle.sf3_write.specs.Rows.{Refuses}
use Rattle.sf3_write.specs.Section.{table_of}
use Rattle.sf3_write.proofs.BytesWritten.{section_is_bytes}
use Rattle.sf3_write.proofs.Lengths.{length-section}
use Rattle.sf3_write.proofs.SectionWritten.{section_written}
use Rattle.sf3_write.proofs.StoredData.{joined, too_many}
use Rattle.sf3_write.proofs.TightOne.{tight_one}
use Rattle.sf3_write.proofs.section.write_stored.Goals as goal

pub returns-in_err-check_rows-clause-fault : goal.returns-in_err-check_rows-clause-fault
returns-in_err-check_rows-clause-fault g c =
    subst (λ (o : Option ℕ). IfErr c.from_residual.result (λ e. Refuses e o)) (too_many c.args.rows.now (g.L.StoredList.listed c.args.functions.now) c.requires.stored) (search rules)

pub totals_of-totals-requires-clause-rows : goal.totals_of-totals-requires-clause-rows
totals_of-totals-requires-clause-rows g c = few_rows c.args.arch c.args.rows.now (g.L.StoredList.listed c.args.functions.now) c.requires.stored c.requires.writable

pub totals_of-totals-requires-clause-len : goal.totals_of-totals-requires-clause-len
totals_of-totals-requires-clause-len g c = few_bytes c.args.arch c.args.rows.now (g.L.StoredList.listed c.args.functions.now) c.requires.stored c.requires.writable

pub overflow_add-data_len : goal.overflow_add-data_len
overflow_add-data_len g c =
    let bytes = few_bytes c.args.arch c.args.rows.now (g.L.StoredList.listed c.args.functions.now) c.requires.stored c.requires.writable in
    let functions = few_functions c.args.arch c.args.rows.now (g.L.StoredList.listed c.args.functions.now) c.requires.writable in
    record { fits = omega (bytes, functions, c.totals_of-totals.ensures.len, c.len-count.ensures, arith) }

pub overflow_add-len-2 : goal.overflow_add-len-2
overflow_add-len-2 g c =
    let bytes = few_bytes c.args.arch c.args.rows.now (g.L.StoredList.listed c.args.functions.now) c.requires.stored c.requires.writable in
    let functions = few_functions c.args.arch c.args.rows.now (g.L.StoredList.listed c.args.functions.now) c.requires.writable in
    record { fits = omega (bytes, functions, c.totals_of-totals.ensures.len, c.len-count.ensures, arith) }

pub push_entries-requires-clause-len : goal.push_entries-requires-clause-len
push_entries-requires-clause-len g c = few_bytes c.args.arch c.args.rows.now (g.L.StoredList.listed c.args.functions.now) c.requires.stored c.requires.writable

pub returns-clause-few : goal.returns-clause-few
returns-clause-few g c = sym (too_many c.args.rows.now (g.L.StoredList.listed c.args.functions.now) c.requires.stored) ∙ c.in_ok-check_rows.ensures.few

pub returns-clause-bytes : goal.returns-clause-bytes
returns-clause-bytes g c =
    joined c.args.arch c.args.at c.args.rows.now (g.L.StoredList.listed c.args.functions.now) c.len-count.result c.totals_of-totals.result.rows (5 * c.len-count.result + c.totals_of-totals.result.row_bytes)
    c.in_ok-bytes.bytes.items c.push_header.new.bytes.items c.push_entries.new.bytes.items c.push_all_data.new.bytes.items c.requires.stored c.len-count.ensures c.totals_of-totals.ensures.rows
    (omega (arith, c.totals_of-totals.ensures.len, c.len-count.ensures)) c.in_ok-bytes.ensures.items c.in_ok-push_header.ensures c.in_ok-push_entries.ensures.ok c.in_ok-push_all_data.ensures

pub returns-clause-len : goal.returns-clause-len
returns-clause-len g c =
    c.push_all_data.new.bytes.ok.0 ∙ (ap length (returns-clause-bytes g c) ∙ length-section c.args.arch c.args.at (map (stored_in c.args.rows.now) (g.L.StoredList.listed c.args.functions.now)))

-- the numbers that were read on the way have room
in_room : (g : _) (c : goal.In_ok-push_all_data g) → IsTrue (list_all entry_fits (map (stored_in c.args.rows.now) (g.L.StoredList.listed c.args.functions.now)))
in_room g c = fits c.args.rows.now (g.L.StoredList.listed c.args.functions.now) c.requires.stored c.in_ok-push_entries.ensures.fits

pub returns-clause-tight : goal.returns-clause-tight
returns-clause-tight g c =
    let functions : List Func = map (stored_in c.args.rows.now) (g.L.StoredList.listed c.args.functions.now) in
    let short = short_functions functions in
    let few = c.requires.writable.row_count in
    let len : row_section_len functions ≤ 285212672 = omega (short, few, arith) in
    section_written c.args.arch c.push_all_data.new.bytes.items c.args.at functions c.requires.writable (in_room g c) (all_rows_fit c.args.rows.now (g.L.StoredList.listed c.args.functions.now) c.requires.stored)
    (returns-clause-few g c) len (returns-clause-bytes g c)

pub returns-clause-section : goal.returns-clause-section
returns-clause-section g c = (returns-clause-tight g c).section

pub returns-clause-are_bytes : goal.returns-clause-are_bytes
returns-clause-are_bytes g c =
    subst AreBytes (sym (returns-clause-bytes g c)) (section_is_bytes c.args.arch c.args.at (map (stored_in c.args.rows.now) (g.L.StoredList.listed c.args.functions.now)) (in_room g c))

pub returns-clause-only : goal.returns-clause-only
returns-clause-only g c = λ other other_bytes other_tight.
    tight_one other c.push_all_data.new.bytes.items c.args.at (table_of c.args.arch (map (stored_in c.args.rows.now) (g.L.StoredList.listed c.args.functions.now))) other_bytes (returns-clause-are_bytes g c)
    other_tight (returns-clause-tight g c)
