-- Inside the crate. GNU SFrame specification, Version 2: what functions one section can hold, as a test that computes.
use Rattle.std.specs.Prelude.{◌+◌, ◌^◌, ◌&&◌, ℕ, ℤ, Option, Bool, true, List, [], ◌∷◌, length, nat_lt, nat_le}
use Rattle.std.specs.List.{list_all}
use Rattle.sf_model.specs.declared.machine.Arch.{Arch}
use Rattle.sf_model.specs.declared.rows.Row.{Row}
use Rattle.sf_model.specs.declared.function.Func.{Func}
use Rattle.sf_model.specs.declared.function.Shape.TheVariants.{Plain}
use Rattle.sf_model.specs.declared.machine.Key.{Key}
use Rattle.sf_model.specs.declared.machine.Base.{Base}
use Rattle.sf_model.specs.declared.content.Ra.{Ra}
use Rattle.sf_model.specs.Content.{content_fits}
use Rattle.sf_model.specs.Function.{key_fits, shape_fits}
use Rattle.sf_model.specs.Table.{row_count}

-- whether each element and the next pass
abbrev pub each_next : {X : Type 0} → (X → X → Bool) → List X → Bool
each_next test [] = true
each_next test (x ∷ []) = true
each_next test (x ∷ y ∷ xs) = test x y && each_next test (y ∷ xs)

abbrev pub is_writable : Arch → Func → Bool
is_writable arch f =
    nat_lt 0 f.size && nat_le (f.start + f.size) (2 ^ 64) && nat_lt 0 (length f.rows)
    && each_next (λ (r : Row) (s : Row). nat_lt r.start s.start) f.rows
    && list_all (λ (r : Row). content_fits arch r.content) f.rows && key_fits arch f.key && shape_fits f.shape

abbrev pub are_writable : Arch → List Func → Bool
are_writable arch functions =
    list_all (is_writable arch) functions
    && each_next (λ (f : Func) (g : Func). nat_le (f.start + f.size) g.start) functions
    && nat_le (length functions) (2 ^ 21) && nat_le (row_count functions) (2 ^ 24)

-- a plain function with these rows
abbrev pub function_of : (start size : ℕ) → Key → List Row → Func
function_of start size key rows = record { start = start; size = size; shape = Plain; key = key; rows = rows }

-- a row by its parts
abbrev pub row_of : ℕ → Base → ℤ → Ra → Option ℤ → Bool → Row
row_of start base cfa ra fp signed = record { start = start; content = record { base = base; cfa = cfa; ra = ra; fp = fp; signed = signed } }
