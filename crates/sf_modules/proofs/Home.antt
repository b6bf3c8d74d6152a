-- Where each address of a function leads to the function's own module, the modules answer as the union of their tables does.
use Rattle.std.specs.List.{find}
use Rattle.std.specs.Option.{option_and_then}
use Rattle.std.proofs.Common.{◌≡◌, ℕ, true, List, [], ◌∷◌, All, Option, Some, None, refl, sym, ap, ◌∙◌, inl, inr}
use Rattle.std.proofs.lemmas.List.Elements.{All-cons, All-nil}
use Rattle.sf_model.specs.declared.machine.Arch.{Arch}
use Rattle.sf_model.specs.declared.function.Func.{Func}
use Rattle.sf_model.specs.Lookup.{FoundRow, contains, found_at}
use Rattle.sf_model.specs.Table.{Table}
use Rattle.sf_model.specs.Union.{IsUnion}
use Rattle.sf_model.proofs.Unions.{Member, answered, contained, found, found_by, unanswered}
use Rattle.sf_modules.specs.Entry.{EntryView, entry_contains}
use Rattle.sf_modules.specs.Found.{found_in, module_at, module_of}
use Rattle.sf_modules.specs.Module.{ModuleView}
use Rattle.sf_modules.specs.Union.{LeadsHome, tables_of}

-- ---- the tables of modules
table_there : (modules : List ModuleView) (m : ModuleView) → Member modules m → Member (tables_of modules) m.table
table_there [] m h = h
table_there (n ∷ ns) m (inl is) = inl (ap (λ (x : ModuleView). x.table) is)
table_there (n ∷ ns) m (inr h) = inr (table_there ns m h)

every_table : (P : Table → Type 0) (modules : List ModuleView) → ((m : ModuleView) → Member modules m → P m.table) → All P (tables_of modules)
every_table P [] h = All-nil P
every_table P (m ∷ ms) h = All-cons P m.table (tables_of ms) (h m (inl refl)) (every_table P ms (λ n k. h n (inr k)))

-- a table that has a row at an address has a function that contains it
record HasFunction (functions : List Func) (pc : ℕ) : Type 0 where
  f : Func
  within : Member functions f
  holds : contains pc f ≡ true

has_function : (functions : List Func) (pc : ℕ) (r : FoundRow) → found_at functions pc ≡ Some r → HasFunction functions pc
has_function functions pc r e = at_found (find (contains pc) functions) refl
  where
    at_found : (o : Option Func) → find (contains pc) functions ≡ o → HasFunction functions pc
    at_found None g = let no = sym (found_by functions pc None g) ∙ e in cc
    at_found (Some f) g = let h = found (contains pc) functions f g in record { f = f; within = h.within; holds = h.passes }

-- a module to which an address leads is one of them
module_there : (entries : List EntryView) (modules : List ModuleView) (pc : ℕ) (m : ModuleView) → module_at entries modules pc ≡ Some m → Member modules m
unfolding module_at
module_there entries modules pc m e = at_entry (find (entry_contains pc) entries) e
  where
    at_entry : (o : Option EntryView) → option_and_then (λ (x : EntryView). module_of modules x.name) o ≡ Some m → Member modules m
    at_entry None e = let no : None ≡ Some m = e in cc
    at_entry (Some x) e = (found _ modules m e).within

module _ (arch : Arch) (entries : List EntryView) (modules : List ModuleView) (functions : List Func) (union : IsUnion arch (tables_of modules) functions) (home : LeadsHome entries modules) (pc : ℕ) where
  -- a module that has a row at the address is the one to which the address leads
  own : (m : ModuleView) (r : FoundRow) → Member modules m → found_at m.table.functions pc ≡ Some r → module_at entries modules pc ≡ Some m
  own m r h e =
      let f = has_function m.table.functions pc r e in
      home m f.f pc (contained modules m h) (contained m.table.functions f.f f.within) f.holds

  -- where the address leads to no module that has a row there, none has one
  none_has : (o : Option ModuleView) → module_at entries modules pc ≡ o → option_and_then (λ (m : ModuleView). found_at m.table.functions pc) o ≡ None
      → (m : ModuleView) → Member modules m → found_at m.table.functions pc ≡ None
  none_has o e none m h = at_row (found_at m.table.functions pc) refl
    where
      at_row : (r : Option FoundRow) → found_at m.table.functions pc ≡ r → found_at m.table.functions pc ≡ None
      at_row None g = g
      at_row (Some r) g =
          let leads : o ≡ Some m = sym e ∙ own m r h g in
          let no : Some r ≡ None = sym g ∙ sym (ap (option_and_then (λ (m : ModuleView). found_at m.table.functions pc)) leads) ∙ none in cc

  by_row : (o : Option ModuleView) → module_at entries modules pc ≡ o → (r : Option FoundRow) → option_and_then (λ (m : ModuleView). found_at m.table.functions pc) o ≡ r → r ≡ found_at functions pc
  by_row o e None g =
      sym (unanswered arch (tables_of modules) functions union pc (every_table (λ (t : Table). found_at t.functions pc ≡ None) modules (none_has o e g)))
  by_row None e (Some r) g = let no : None ≡ Some r = g in cc
  by_row (Some m) e (Some r) g =
      let h = module_there entries modules pc m e in
      sym (answered arch (tables_of modules) functions union pc m.table r (contained (tables_of modules) m.table (table_there modules m h)) g)

  pub as_the_union : found_in entries modules pc ≡ found_at functions pc
  unfolding found_in
  as_the_union = by_row (module_at entries modules pc) refl (option_and_then (λ (m : ModuleView). found_at m.table.functions pc) (module_at entries modules pc)) refl
