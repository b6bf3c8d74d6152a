-- How long the parts of a section are.
use Rattle.std.proofs.Common.{◌≡◌, ℕ, ◌+◌, ◌*◌, List, [], ◌∷◌, ◌++◌, length, refl, ap, sym, ◌∙◌, arith, length-append}
use Rattle.std.specs.Prelude.{ℤ, sum_by}
use Rattle.std.specs.List.{flat_map}
use Rattle.std.proofs.lemmas.List.Concat.{flat_map-cons}
use Rattle.std.proofs.lemmas.List.Sums.{sum_by-cons}
use Rattle.sf_model.specs.declared.machine.Arch.{Arch}
use Rattle.sf_model.specs.declared.rows.Row.{Row}
use Rattle.sf_model.specs.declared.function.Func.{Func}
use Rattle.sf_model.specs.declared.function.FuncHead.{FuncHead}
use Rattle.sf_model.specs.Table.{row_count}
use Rattle.sf_model.proofs.SpelledLengths.{length-unsigned, length-signed, length-spelled_row}
use Rattle.sf_decode.specs.View.{head_of}
use Rattle.sf_sizes.specs.RowLength.{offset_width, row_len}
use Rattle.sf_write.specs.Number.{word_bytes, signed_word_bytes}
use Rattle.sf_write.specs.Row.{narrow_row, start_width, rows_bytes, rows_len}
use Rattle.sf_write.specs.Reach.{start_distance}
use Rattle.sf_write.specs.Entry.{entry_bytes, entries_bytes}
use Rattle.sf_write.specs.Section.{preamble, header_bytes, section_bytes, section_len, row_section_len}

pub length-word : (n : ℕ) → length (word_bytes n) ≡ 4
unfolding word_bytes
length-word n = length-unsigned 2 n

pub length-signed_word : (z : ℤ) → length (signed_word_bytes z) ≡ 4
unfolding signed_word_bytes
length-signed_word z = length-signed 2 z

pub length-row : (width : ℕ) (row : Row) → length (narrow_row width row) ≡ row_len width row.content
length-row width row = length-spelled_row width (offset_width row.content) row

length-rows_at : (width : ℕ) (rows : List Row) → length (flat_map (narrow_row width) rows) ≡ sum_by (λ (row : Row). row_len width row.content) rows
length-rows_at width [] = refl
length-rows_at width (row ∷ rows) =
    ap length (flat_map-cons (narrow_row width) row rows)
    ∙ (length-append (narrow_row width row) (flat_map (narrow_row width) rows)
    ∙ (ap (λ n. n + length (flat_map (narrow_row width) rows)) (length-row width row)
    ∙ (ap (λ n. row_len width row.content + n) (length-rows_at width rows)
    ∙ sym (sum_by-cons (λ (r : Row). row_len width r.content) row rows))))

pub length-rows : (rows : List Row) → length (rows_bytes rows) ≡ rows_len rows
unfolding rows_bytes rows_len
length-rows rows = length-rows_at (start_width rows) rows

pub length-all_rows : (functions : List Func) → length (flat_map (λ (f : Func). rows_bytes f.rows) functions) ≡ row_section_len functions
length-all_rows [] = refl
length-all_rows (f ∷ functions) =
    ap length (flat_map-cons (λ (g : Func). rows_bytes g.rows) f functions)
    ∙ (length-append (rows_bytes f.rows) (flat_map (λ (g : Func). rows_bytes g.rows) functions)
    ∙ (ap (λ n. n + length (flat_map (λ (g : Func). rows_bytes g.rows) functions)) (length-rows f.rows)
    ∙ (ap (λ n. rows_len f.rows + n) (length-all_rows functions)
    ∙ sym (sum_by-cons (λ (g : Func). rows_len g.rows) f functions))))

entry-length : (a b c d e : List ℕ) → length a ≡ 4 → length b ≡ 4 → length c ≡ 4 → length d ≡ 4 → length e ≡ 4 → length (a ++ b ++ c ++ d ++ e) ≡ 20
entry-length a b c d e p q r s t = simp (length-append, p, q, r, s, t)

pub length-entry : (at number place width : ℕ) (head : FuncHead) → length (entry_bytes at number place width head) ≡ 20
unfolding entry_bytes
length-entry at number place width head =
    entry-length _ _ _ _ _ (length-signed_word (start_distance at number head.start)) (length-word head.size) (length-word place) (length-word head.rows) refl

pub length-entries : (at number place : ℕ) (functions : List Func) → length (entries_bytes at number place functions) ≡ 20 * length functions
length-entries at number place [] = refl
length-entries at number place (f ∷ functions) =
    length-append (entry_bytes at number place (start_width f.rows) (head_of f)) (entries_bytes at (number + 1) (place + rows_len f.rows) functions)
    ∙ omega (arith, length-entry at number place (start_width f.rows) (head_of f), length-entries at (number + 1) (place + rows_len f.rows) functions)

header-length : (a b c d e f : List ℕ) → length a ≡ 8 → length b ≡ 4 → length c ≡ 4 → length d ≡ 4 → length e ≡ 4 → length f ≡ 4 → length (a ++ b ++ c ++ d ++ e ++ f) ≡ 28
header-length a b c d e f p q r s t u = simp (length-append, p, q, r, s, t, u)

length-preamble : (arch : Arch) → length (preamble arch) ≡ 8
unfolding preamble
length-preamble arch = refl

pub length-header : (arch : Arch) (functions rows len : ℕ) → length (header_bytes arch functions rows len) ≡ 28
unfolding header_bytes
length-header arch functions rows len =
    header-length _ _ _ _ _ _ (length-preamble arch) (length-word functions) (length-word rows) (length-word len) (length-word 0) (length-word (20 * functions))

three-lengths : (a b c : List ℕ) (k m n : ℕ) → length a ≡ k → length b ≡ m → length c ≡ n → length (a ++ b ++ c) ≡ k + m + n
three-lengths a b c k m n p q r = simp (length-append, p, q, r)

-- a section is as long as its header, its entries and its rows
pub length-section : (arch : Arch) (at : ℕ) (functions : List Func) → length (section_bytes arch at functions) ≡ section_len functions
unfolding section_bytes
length-section arch at functions =
    three-lengths _ _ _ _ _ _ (length-header arch (length functions) (row_count functions) (row_section_len functions)) (length-entries at 0 0 functions) (length-all_rows functions)
