-- Functions of Version 2 that have rows are found alike in Version 3.
use Rattle.std.specs.Option.{option_map}
use Rattle.std.specs.List.{find}
use Rattle.std.specs.Prelude.{if◌then◌else◌}
use Rattle.std.proofs.Common.{◌≡◌, ◌<◌, ℕ, Bool, true, false, List, [], ◌∷◌, All, Option, Some, None, length, map, refl, ap, ◌∙◌, arith}
use Rattle.std.proofs.lemmas.List.Elements.{All-head, All-tail}
use Rattle.sf_model.specs.declared.function.Func.{Func}
use Rattle.sf_model.specs.declared.recovery.Regs.{Regs}
use Rattle.sf_model.specs.declared.rows.Row.{Row}
use Rattle.sf_model.specs.Lookup.{FoundRow, contains, row_in, row_in_first}
use Rattle.sf_model.specs.Lookup as version_2
use Rattle.sf_model.specs.Memory.{Region}
use Rattle.sf_model.specs.Recovery.{Recovery, recovery}
use Rattle.sf_model.specs.Walk.{recover_by_rows}
use Rattle.sf3_model.specs.Described.{Described, ordinary}
use Rattle.sf3_model.specs.Lookup.{Recovers, by_row, describes, found_at, found_by, found_in_first, step_at, step_by}

abbrev HasRows : Func → Type 0
HasRows f = 0 < length f.rows

-- in a function with rows
by_rows : (pc : ℕ) (f : Func) (rows : List Row) → 0 < length rows → found_by pc false f rows ≡ option_map (by_row false) (row_in pc f)
by_rows pc f [] some = absurd (omega (some, arith))
by_rows pc f (row ∷ rows) some = refl

-- in the first function that contains the address: this one or a later one
by_test : (pc : ℕ) (f : Func) (here : Bool) (later : Option Described) (before : Option Func) → 0 < length f.rows → found_in_first pc later ≡ option_map (by_row false) (row_in_first pc before)
    → found_in_first pc (if here then Some (ordinary f) else later) ≡ option_map (by_row false) (row_in_first pc (if here then Some f else before))
by_test pc f true later before some e = by_rows pc f f.rows some
by_test pc f false later before some e = e

by_functions : (functions : List Func) → All HasRows functions → (pc : ℕ) → found_in_first pc (find (describes pc) (map ordinary functions)) ≡ option_map (by_row false) (row_in_first pc (find (contains pc) functions))
by_functions [] have pc = refl
by_functions (f ∷ functions) have pc =
    by_test pc f (contains pc f) (find (describes pc) (map ordinary functions)) (find (contains pc) functions) (All-head HasRows f functions have) (by_functions functions (All-tail HasRows f functions have) pc)

pub alike_found : (functions : List Func) → All (λ (f : Func). 0 < length f.rows) functions → (pc : ℕ) → found_at (map ordinary functions) pc ≡ option_map (by_row false) (version_2.found_at functions pc)
unfolding found_at version_2.found_at
alike_found functions have pc = by_functions functions have pc

-- what is recovered by it
by_found : (regs : Regs) (memory : List Region) (found : Option FoundRow)
    → option_map (step_by regs memory) (option_map (by_row false) found) ≡ option_map (λ (r : Recovery). Recovers r false) (option_map (λ (f : FoundRow). recovery f.row.content f.func.key regs memory) found)
by_found regs memory None = refl
by_found regs memory (Some found) = refl

pub alike_recovered : (functions : List Func) → All (λ (f : Func). 0 < length f.rows) functions → (pc : ℕ) (regs : Regs) (memory : List Region)
    → step_at (map ordinary functions) memory pc regs ≡ option_map (λ (r : Recovery). Recovers r false) (recover_by_rows functions memory pc regs)
unfolding recover_by_rows
alike_recovered functions have pc regs memory = ap (option_map (step_by regs memory)) (alike_found functions have pc) ∙ by_found regs memory (version_2.found_at functions pc)
