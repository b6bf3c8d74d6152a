-- The functions of one section.
use Rattle.std.specs.List.{filter}
use Rattle.std.specs.Option.{option_map}
use Rattle.std.proofs.Common.{◌≡◌, ℕ, List, [], ◌∷◌, All, map, Option, Some, None, refl, sym, ap, subst, ◌∙◌}
use Rattle.std.proofs.lemmas.List.{append-nil}
use Rattle.std.proofs.lemmas.List.Elements.{All-filter}
use Rattle.std.proofs.lemmas.List.Sorted.{All-permutation}
use Rattle.sf_model.specs.Table.{Table}
use Rattle.sf_decode.specs.declared.view.View.{View}
use Rattle.sf_decode.specs.View.{table_of}
use Rattle.sf_functions.specs.Neighbours.{first_overlap}
use Rattle.sf_functions.specs.Order.{IsInOrder}
use Rattle.sf_merge.specs.declared.located.Located.{Located}
use Rattle.sf_merge.specs.Located as sections
use Rattle.sf_merge.specs.Located.{is_sized, located, located_size, located_start}
use Rattle.sf_merge.specs.Merging.{shared_address_fault, shared_by}
use Rattle.sf_merge.specs.OneSection.{later_entry, shared_entry, sized_in}
use Rattle.sf_merge.specs.Views.{IsViewOfSection}
use Rattle.sf_merge.proofs.Apart.{all_back, function_of}
use Rattle.sf_merge.proofs.Sound.{IsSound, view_sound}
use Rattle.sf_merge.proofs.United.{functions_are}

-- as the one section of a list
pub in_tables : (table : Table) (ordered : List Located) → IsInOrder located_start (sized_in table) ordered → IsInOrder located_start (sections.sized_in_all (table ∷ [])) ordered
in_tables table ordered order = subst (λ (ls : List Located). IsInOrder located_start (filter is_sized ls) ordered) (sym (append-nil (located 0 table))) order

pub located_functions : (table : Table) → map function_of (located 0 table) ≡ table.functions
located_functions table =
    ap (map function_of) (sym (append-nil (located 0 table))) ∙ functions_are (table ∷ []) ∙ append-nil table.functions

-- ---- the functions are sound
pub located_sound : (view : View) → IsViewOfSection view → All (λ (l : Located). IsSound (table_of view).arch l.func) (located 0 (table_of view))
located_sound view read =
    let table = table_of view in
    all_back (IsSound table.arch) function_of (located 0 table) (subst (All (IsSound table.arch)) (sym (located_functions table)) (view_sound view read))

pub ordered_sound : (view : View) (ordered : List Located) → IsViewOfSection view → IsInOrder located_start (sized_in (table_of view)) ordered → All (λ (l : Located). IsSound (table_of view).arch l.func) ordered
ordered_sound view ordered read order =
    let table = table_of view in
    let sound = All-filter is_sized (λ (l : Located). IsSound table.arch l.func) (located 0 table) (located_sound view read) in
    All-permutation (λ (l : Located). IsSound table.arch l.func) (sized_in table) ordered order.moved sound

-- ---- the functions share no address where no entry is named
none_found : {F : Type 0} (fault : ℕ → F) (bytes : List ℕ) (o : Option (Located × Located)) → option_map fault (option_map (later_entry bytes) o) ≡ None → option_map shared_by o ≡ None
none_found fault bytes None e = refl
none_found fault bytes (Some pair) e = cc

-- with the fault that a caller makes of the entry's place
pub none_shared : {F : Type 0} (fault : ℕ → F) (bytes : List ℕ) (ls : List Located) → option_map fault (shared_entry bytes ls) ≡ None → shared_address_fault ls ≡ None
unfolding shared_entry shared_address_fault
none_shared fault bytes ls e = none_found fault bytes (first_overlap located_start located_size ls) e
