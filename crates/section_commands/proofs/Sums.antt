-- The functions and the rows of modules, summed one after the other.
use Rattle.std.proofs.Common.{◌≡◌, ℕ, ◌+◌, ◌<◌, ◌≤◌, List, [], ◌∷◌, ◌++◌, length, map, take, get_or, refl, sym, ap, ◌∙◌}
use Rattle.std.proofs.lemmas.List.{take_more, take_all}
use Rattle.std.proofs.lemmas.List.Sums.{sum_by_push}
use Rattle.sf_model.specs.Table.{Table, row_count}
use Rattle.sf_decode.specs.View.{table_of}
use Rattle.sf_modules.specs.declared.mapped.Module.{Module}
use Rattle.sf_modules.specs.Module.{module_view}
use Rattle.sf_modules.specs.Union.{tables_of}
use Rattle.sf_merge.specs.Merging.{functions_in_all, rows_in_all}

abbrev pub tables_in : List Module → List Table
tables_in modules = tables_of (map module_view modules)

tables_so_far : (modules : List Module) (i : ℕ) (m : Module) → i < length modules → m ≡ get_or modules i m → tables_in (take (i + 1) modules) ≡ tables_in (take i modules) ++ table_of m.view ∷ []
tables_so_far modules i m lt is =
    ap tables_in (take_more modules i m lt) ∙ pushed (take i modules) (get_or modules i m) ∙ ap (λ (n : Module). tables_in (take i modules) ++ table_of n.view ∷ []) (sym is)
  where
    pushed : (before : List Module) (n : Module) → tables_in (before ++ n ∷ []) ≡ tables_in before ++ table_of n.view ∷ []
    pushed [] n = refl
    pushed (b ∷ bs) n = ap (λ (ts : List Table). table_of b.view ∷ ts) (pushed bs n)

pub functions_more : (modules : List Module) (i : ℕ) (m : Module) → i < length modules → m ≡ get_or modules i m
    → functions_in_all (tables_in (take (i + 1) modules)) ≡ functions_in_all (tables_in (take i modules)) + length (table_of m.view).functions
functions_more modules i m lt is =
    ap functions_in_all (tables_so_far modules i m lt is) ∙ sum_by_push (λ (table : Table). length table.functions) (tables_in (take i modules)) (table_of m.view)

pub rows_more : (modules : List Module) (i : ℕ) (m : Module) → i < length modules → m ≡ get_or modules i m
    → rows_in_all (tables_in (take (i + 1) modules)) ≡ rows_in_all (tables_in (take i modules)) + row_count (table_of m.view).functions
rows_more modules i m lt is =
    ap rows_in_all (tables_so_far modules i m lt is) ∙ sum_by_push (λ (table : Table). row_count table.functions) (tables_in (take i modules)) (table_of m.view)

pub tables_all : (modules : List Module) (i : ℕ) → length modules ≤ i → tables_in (take i modules) ≡ tables_in modules
tables_all modules i le = ap tables_in (take_all i modules le)
