-- The tables of open sections, one after the other.
use Rattle.std.specs.Prelude.{◌++◌, map, take, filter_map, length}
use Rattle.std.specs.List.{cons_option}
use Rattle.std.proofs.Common.{◌≡◌, ℕ, ◌+◌, ◌<◌, ◌≤◌, List, [], ◌∷◌, get_or, sym, ap, ◌∙◌}
use Rattle.std.proofs.lemmas.List.{length-append, length-map, take_all, take_more}
use Rattle.std.proofs.lemmas.List.Elements.{filter_map-append}
use Rattle.sf_model.specs.Table.{Table}
use Rattle.sf_decode.specs.declared.kept.LentSection.{LentSection}
use Rattle.sf_decode.specs.declared.view.View.{View}
use Rattle.sf_decode.specs.Kept.{table_lent}
use Rattle.sf_decode.specs.View.{table_of}
use Rattle.sf_link_c.specs.Merging.{AreOpen}

pub one_on : (sections : List LentSection) (i : ℕ) (d section : LentSection) → i < length sections → section ≡ get_or sections i d
    → filter_map table_lent (take (i + 1) sections) ≡ filter_map table_lent (take i sections) ++ cons_option (table_lent section) []
one_on sections i d section lt e =
    ap (filter_map table_lent) (take_more sections i d lt) ∙ filter_map-append table_lent (take i sections) (get_or sections i d ∷ [])
    ∙ ap (λ (s : LentSection). filter_map table_lent (take i sections) ++ cons_option (table_lent s) []) (sym e)

pub counted_on : (sections : List LentSection) (i : ℕ) (d section : LentSection) (count more : ℕ) → i < length sections → section ≡ get_or sections i d
    → more ≡ length (cons_option (table_lent section) []) → count ≡ length (filter_map table_lent (take i sections))
    → count + more ≡ length (filter_map table_lent (take (i + 1) sections))
counted_on sections i d section count more lt e m c =
    ap (λ (n : ℕ). n + more) c ∙ ap (λ (n : ℕ). length (filter_map table_lent (take i sections)) + n) m
    ∙ sym (length-append (filter_map table_lent (take i sections)) (cons_option (table_lent section) []))
    ∙ ap (λ (ts : List Table). length ts) (sym (one_on sections i d section lt e))

pub viewed_on : (sections : List LentSection) (i : ℕ) (d section : LentSection) (before after : List View) → i < length sections → section ≡ get_or sections i d
    → map table_of after ≡ map table_of before ++ cons_option (table_lent section) [] → map table_of before ≡ filter_map table_lent (take i sections)
    → map table_of after ≡ filter_map table_lent (take (i + 1) sections)
viewed_on sections i d section before after lt e more h =
    more ∙ ap (λ (ts : List Table). ts ++ cons_option (table_lent section) []) h ∙ sym (one_on sections i d section lt e)

pub all_on : (sections : List LentSection) (i : ℕ) → length sections ≤ i → filter_map table_lent (take i sections) ≡ filter_map table_lent sections
all_on sections i le = ap (filter_map table_lent) (take_all i sections le)

pub as_many : (sections : List LentSection) (views : List View) → map table_of views ≡ filter_map table_lent sections → AreOpen sections → length views ≡ length sections
as_many sections views same are_open = sym (length-map views table_of) ∙ ap (λ (ts : List Table). length ts) same ∙ are_open.2
