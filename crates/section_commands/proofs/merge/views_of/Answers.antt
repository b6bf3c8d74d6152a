use Rattle.std.specs.List.{zip}
use Rattle.std.proofs.Common.{◌≡◌, ◌<◌, ◌+◌, ◌∷◌, ◌++◌, [], ℕ, List, map, length, ap, sym, subst, ◌∙◌, Err, arith}
use Rattle.std.proofs.lemmas.List.{map-append}
use Rattle.sf_decode.specs.Decoding.{section_check}
use Rattle.sf_decode.specs.View.{table_of}
use Rattle.sf_merge.specs.Merging.{functions_in_all, rows_in_all}
use Rattle.sf_words.specs.ItemRead.{read_bytes}
use Rattle.sf_words.specs.declared.item.Item.{Item}
use Rattle.sf_words.specs.declared.loaded.Loaded.{Loaded}
use Rattle.sf_words.specs.Items.{may_be_by_parts, item_of}
use Rattle.sf_words.specs.Loading.{loaded_bytes}
use Rattle.sf_words.specs.Named.{named_sections}
use Rattle.sf_words.specs.Words.{words_of_section}
use Rattle.section_commands.proofs.Lists.{a_section, section_turn}
use Rattle.section_commands.proofs.Merged.{ReadingSections, few_so_far, functions_more, is_read, limit_of_sums, one_more_read, over_stops, rows_more, unread}
use Rattle.section_commands.proofs.merge.views_of.Goals as goal

pub unreachable-requires : goal.unreachable-requires
unreachable-requires c =
    let lt : c.loop-file.file-index < length c.args.loaded.now = omega arith in
    let section = a_section (named_sections c.args.sections) c.args.loaded.now c.loop-file.file-index c.file-item.result c.requires.items lt in
    c.in_default.not-Section section.0 (ap (λ (l : Loaded). l.item) c.file-item.is ∙ section.1)

pub bytes-requires : goal.bytes-requires
bytes-requires c = ap (λ (i : Item). may_be_by_parts (item_of i)) c.in-Section.is

pub returns-in-Err-clause-stops : goal.returns-in-Err-clause-stops
returns-in-Err-clause-stops c =
    let sections = named_sections c.args.sections in
    let loaded = c.args.loaded.now in
    let k = c.loop-file.file-index in
    let lt : k < length loaded = omega arith in
    let is_section = ap (λ (l : Loaded). l.item) (sym c.file-item.is) ∙ c.in-Section.is in
    let bytes = c.bytes.ensures ∙ ap (λ (l : Loaded). read_bytes l.read) c.file-item.is in
    let here = section_turn sections loaded k c.file-item.result c.in-Section.section c.requires.items lt is_section in
    let check = subst (λ (b : List ℕ). section_check b c.in-Section.section.at ≡ Err c.in-Err.fault) bytes (sym c.in-Err.ensures.exact) in
    let number : c.len-item.result ≡ k = omega (arith, c.len-item.ensures, c.loop-file.views.ok.0, c.loop-file.invariant.count) in
    unread (zip sections (loaded_bytes loaded)) k _ (map table_of c.loop-file.views.items) _ _ c.in-Err.fault c.len-item.result c.undecoded.result c.loop-file.invariant.reading here check number c.undecoded.ensures

pub returns-in-Some-clause-stops : goal.returns-in-Some-clause-stops
returns-in-Some-clause-stops c =
    let sections = named_sections c.args.sections in
    let loaded = c.args.loaded.now in
    let k = c.loop-file.file-index in
    let lt : k < length loaded = omega arith in
    let is_section = ap (λ (l : Loaded). l.item) (sym c.file-item.is) ∙ c.in-Section.is in
    let bytes = c.bytes.ensures ∙ ap (λ (l : Loaded). read_bytes l.read) c.file-item.is in
    let here = section_turn sections loaded k c.file-item.result c.in-Section.section c.requires.items lt is_section in
    let is = is_read _ _ (words_of_section c.in-Section.section) (table_of c.in-Ok.view) bytes (sym c.in-Ok.ensures.exact) c.in-Ok.ensures.sound in
    let tables = map table_of c.loop-file.views.items in
    let table = table_of c.in-Ok.view in
    let functions = functions_more tables table c.loop-file.functions c.len.result c.loop-file.invariant.functions c.len.ensures.value in
    let rows = rows_more tables table c.loop-file.rows c.row_count.result c.loop-file.invariant.rows c.row_count.ensures.value in
    let limit = limit_of_sums (tables ++ table ∷ []) _ _ functions rows in
    over_stops (zip sections (loaded_bytes loaded)) k _ tables _ _ table c.in-Some.limit c.loop-file.invariant.reading here is (limit ∙ sym c.in-Some.ensures)

pub loop-file-preserved : goal.loop-file-preserved
loop-file-preserved c =
    let sections = named_sections c.args.sections in
    let loaded = c.args.loaded.now in
    let k = c.loop-file.file-index in
    let lt : k < length loaded = omega arith in
    let is_section = ap (λ (l : Loaded). l.item) (sym c.file-item.is) ∙ c.in-Section.is in
    let bytes = c.bytes.ensures ∙ ap (λ (l : Loaded). read_bytes l.read) c.file-item.is in
    let here = section_turn sections loaded k c.file-item.result c.in-Section.section c.requires.items lt is_section in
    let is = is_read _ _ (words_of_section c.in-Section.section) (table_of c.in-Ok.view) bytes (sym c.in-Ok.ensures.exact) c.in-Ok.ensures.sound in
    let table = table_of c.in-Ok.view in
    let tables = map table_of c.loop-file.views.items in
    let functions = functions_more tables table c.loop-file.functions c.len.result c.loop-file.invariant.functions c.len.ensures.value in
    let rows = rows_more tables table c.loop-file.rows c.row_count.result c.loop-file.invariant.rows c.row_count.ensures.value in
    let limit = limit_of_sums (tables ++ table ∷ []) _ _ functions rows in
    let few = few_so_far (c.loop-file.functions + c.len.result) (c.loop-file.rows + c.row_count.result) (sym c.in_default-exceeded_limit.ensures) in
    let grown : map table_of c.push.new.self.items ≡ tables ++ table ∷ [] = ap (map table_of) c.in_ok-push.ensures.items ∙ map-append table_of c.loop-file.views.items (c.in-Ok.view ∷ []) in
    let read =
    one_more_read (zip sections (loaded_bytes loaded)) k _ tables _ _ table c.loop-file.invariant.reading here is (limit ∙ sym c.in_default-exceeded_limit.ensures) in
    record {
      count = omega (arith, c.in_ok-push.ensures.len, c.push.new.self.ok.0, c.loop-file.views.ok.0, c.loop-file.invariant.count);
      functions = sym (ap functions_in_all grown ∙ functions);
      few_functions = few.0;
      rows = sym (ap rows_in_all grown ∙ rows);
      few_rows = few.1;
      reading = subst (ReadingSections (zip sections (loaded_bytes loaded)) (k + 1) _) (sym grown) read;
    }
