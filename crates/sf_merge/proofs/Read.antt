-- The functions of sections as they are read, in order.
use Rattle.std.specs.Prelude.{nat_lt}
use Rattle.std.specs.List.{enumerate_from, filter, flat_map}
use Rattle.std.proofs.Common.{◌≡◌, ℕ, ◌+◌, ◌<◌, ◌≤◌, Bool, cond, List, [], ◌∷◌, ◌++◌, length, map, drop, get_or, sym, ap, ◌∙◌, append_assoc, arith}
use Rattle.std.proofs.lemmas.Bool.{lt-ltb, le-ltb}
use Rattle.std.proofs.lemmas.List.{append-nil, drop_more, drop_all}
use Rattle.std.proofs.lemmas.List.Elements.{filter-append}
use Rattle.sf_model.specs.declared.function.Func.{Func}
use Rattle.sf_model.specs.declared.function.FuncHead.{FuncHead}
use Rattle.sf_model.specs.declared.rows.Row.{Row}
use Rattle.sf_model.specs.Table.{Table}
use Rattle.sf_decode.specs.declared.view.View.{View}
use Rattle.sf_decode.specs.View.{table_of, head_of}
use Rattle.sf_merge.specs.declared.located.Located.{Located}
use Rattle.sf_merge.specs.Located.{at_entry, located, is_sized}
use Rattle.sf_merge.proofs.Checks.{tables_more, no_tables_left}

-- ---- a function
abbrev with_rows : FuncHead → List Row → Func
with_rows head rows = record { start = head.start; size = head.size; shape = head.shape; key = head.key; rows = rows }

pub function_is : (f : Func) (head : FuncHead) (rows : List Row) → head ≡ head_of f → rows ≡ f.rows → with_rows head rows ≡ f
function_is f head rows h r = ap (λ (x : FuncHead). with_rows x rows) h ∙ ap (λ (rs : List Row). with_rows (head_of f) rs) r

-- ---- a section: the functions from an entry on
abbrev pub left_in : (item number : ℕ) → List Func → List Located
left_in item number functions = filter is_sized (map (at_entry item) (enumerate_from number functions))

left_more : (item number : ℕ) (functions : List Func) (f : Func) → number < length functions → get_or functions number f ≡ f
    → left_in item number (drop number functions) ≡ cond (nat_lt 0 f.size) (at_entry item (number, f) ∷ left_in item (number + 1) (drop (number + 1) functions)) (left_in item (number + 1) (drop (number + 1) functions))
left_more item number functions f lt is =
    ap (left_in item number) (drop_more functions number f lt) ∙ ap (λ (g : Func). left_in item number (g ∷ drop (number + 1) functions)) is

pub left_kept : (all so_far : List Located) (item number : ℕ) (functions : List Func) (f : Func) → number < length functions → get_or functions number f ≡ f → 0 < f.size
    → all ≡ so_far ++ left_in item number (drop number functions) → all ≡ (so_far ++ at_entry item (number, f) ∷ []) ++ left_in item (number + 1) (drop (number + 1) functions)
left_kept all so_far item number functions f lt is some e =
    e ∙ ap (λ ls. so_far ++ ls) (left_more item number functions f lt is)
    ∙ ap (λ (b : Bool). so_far ++ cond b (at_entry item (number, f) ∷ left_in item (number + 1) (drop (number + 1) functions)) (left_in item (number + 1) (drop (number + 1) functions))) (lt-ltb 0 f.size some)
    ∙ sym (append_assoc so_far (at_entry item (number, f) ∷ []) (left_in item (number + 1) (drop (number + 1) functions)))

pub left_passed : (all so_far : List Located) (item number : ℕ) (functions : List Func) (f : Func) → number < length functions → get_or functions number f ≡ f → f.size ≡ 0
    → all ≡ so_far ++ left_in item number (drop number functions) → all ≡ so_far ++ left_in item (number + 1) (drop (number + 1) functions)
left_passed all so_far item number functions f lt is none e =
    e ∙ ap (λ ls. so_far ++ ls) (left_more item number functions f lt is)
    ∙ ap (λ (b : Bool). so_far ++ cond b (at_entry item (number, f) ∷ left_in item (number + 1) (drop (number + 1) functions)) (left_in item (number + 1) (drop (number + 1) functions))) (le-ltb 0 f.size (omega (none, arith)))

pub left_none : (all so_far : List Located) (item number : ℕ) (functions : List Func) → length functions ≤ number → all ≡ so_far ++ left_in item number (drop number functions) → so_far ≡ all
left_none all so_far item number functions le e =
    sym (e ∙ ap (λ fs. so_far ++ left_in item number fs) (drop_all number functions le) ∙ append-nil so_far)

-- ---- all sections: the functions from a section on
abbrev pub sized_from : (item : ℕ) → List Table → List Located
sized_from item tables = filter is_sized (flat_map (λ (section : ℕ × Table). located section.0 section.1) (enumerate_from item tables))

pub section_left : (item : ℕ) (views : List View) (i : ℕ) (v : View) → i < length views → v ≡ get_or views i v
    → sized_from item (map table_of (drop i views)) ≡ filter is_sized (located item (table_of v)) ++ sized_from (item + 1) (map table_of (drop (i + 1) views))
section_left item views i v lt is =
    ap (sized_from item) (tables_more views i v lt is)
    ∙ filter-append is_sized (located item (table_of v)) (flat_map (λ (section : ℕ × Table). located section.0 section.1) (enumerate_from (item + 1) (map table_of (drop (i + 1) views))))

pub none_left : (all so_far : List Located) (item : ℕ) (views : List View) (i : ℕ) → length views ≤ i → all ≡ so_far ++ sized_from item (map table_of (drop i views)) → all ≡ so_far
none_left all so_far item views i le h = h ∙ ap (λ ts. so_far ++ sized_from item ts) (no_tables_left views i le) ∙ append-nil so_far
