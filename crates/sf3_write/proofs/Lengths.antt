-- How long the parts of a section are.
use Rattle.std.proofs.Common.{◌≡◌, ℕ, ◌+◌, ◌*◌, List, [], ◌∷◌, ◌++◌, length, refl, ap, ◌∙◌, arith, length-append}
use Rattle.std.specs.List.{flat_map}
use Rattle.std.proofs.lemmas.List.Concat.{flat_map-cons}
use Rattle.std.proofs.lemmas.List.Sums.{sum_by-cons}
use Rattle.sf_model.specs.declared.machine.Arch.{Arch}
use Rattle.sf_model.specs.declared.function.Func.{Func}
use Rattle.sf_model.specs.declared.function.FuncHead.{FuncHead}
use Rattle.sf_model.specs.Table.{row_count}
use Rattle.sf_decode.specs.View.{head_of}
use Rattle.sf_write.specs.Row.{rows_bytes, rows_len, start_width}
use Rattle.sf_write.proofs.Lengths.{length-rows, length-word}
use Rattle.sf3_write.specs.Attributes.{attributes_bytes, data_bytes}
use Rattle.sf3_write.specs.Entry.{data_len, distance_from, entries_bytes, entry_bytes, field_address, long_bytes}
use Rattle.sf3_write.specs.Section.{data_section_len, header_bytes, preamble, section_bytes, section_len}

pub length-long : (n : ℕ) → length (long_bytes n) ≡ 8
unfolding long_bytes
length-long n = refl

three-lengths : (a b c : List ℕ) (k m n : ℕ) → length a ≡ k → length b ≡ m → length c ≡ n → length (a ++ b ++ c) ≡ k + m + n
three-lengths a b c k m n p q r = simp (length-append, p, q, r)

pub length-entry : (at number place start size : ℕ) → length (entry_bytes at number place start size) ≡ 16
unfolding entry_bytes
length-entry at number place start size = three-lengths _ _ _ 8 4 4 (length-long (distance_from (field_address at number) start)) (length-word size) (length-word place)

pub length-entries : (at number place : ℕ) (functions : List Func) → length (entries_bytes at number place functions) ≡ 16 * length functions
length-entries at number place [] = refl
length-entries at number place (f ∷ functions) =
    length-append (entry_bytes at number place f.start f.size) (entries_bytes at (number + 1) (place + data_len f) functions)
    ∙ omega (arith, length-entry at number place f.start f.size, length-entries at (number + 1) (place + data_len f) functions)

pub length-attributes : (width : ℕ) (head : FuncHead) → length (attributes_bytes width head) ≡ 5
unfolding attributes_bytes
length-attributes width head = refl

pub length-data : (f : Func) → length (data_bytes f) ≡ data_len f
unfolding data_bytes
length-data f =
    length-append (attributes_bytes (start_width f.rows) (head_of f)) (rows_bytes f.rows)
    ∙ omega (arith, length-attributes (start_width f.rows) (head_of f), length-rows f.rows)

pub length-all_data : (functions : List Func) → length (flat_map data_bytes functions) ≡ data_section_len functions
length-all_data [] = refl
length-all_data (f ∷ functions) =
    ap length (flat_map-cons data_bytes f functions) ∙ length-append (data_bytes f) (flat_map data_bytes functions)
    ∙ omega (arith, length-data f, length-all_data functions, sum_by-cons (λ (g : Func). rows_len g.rows) f functions)

header-length : (a b c d e f : List ℕ) → length a ≡ 8 → length b ≡ 4 → length c ≡ 4 → length d ≡ 4 → length e ≡ 4 → length f ≡ 4 → length (a ++ b ++ c ++ d ++ e ++ f) ≡ 28
header-length a b c d e f p q r s t u = simp (length-append, p, q, r, s, t, u)

pub length-preamble : (arch : Arch) → length (preamble arch) ≡ 8
unfolding preamble
length-preamble arch = refl

pub length-header : (arch : Arch) (functions rows len : ℕ) → length (header_bytes arch functions rows len) ≡ 28
unfolding header_bytes
length-header arch functions rows len =
    header-length _ _ _ _ _ _ (length-preamble arch) (length-word functions) (length-word rows) (length-word len) (length-word 0) (length-word (16 * functions))

-- a section is as long as its header, its entries and its functions' data
pub length-section : (arch : Arch) (at : ℕ) (functions : List Func) → length (section_bytes arch at functions) ≡ section_len functions
unfolding section_bytes
length-section arch at functions =
    three-lengths _ _ _ _ _ _ (length-header arch (length functions) (row_count functions) (data_section_len functions)) (length-entries at 0 0 functions) (length-all_data functions)
