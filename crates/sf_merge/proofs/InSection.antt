-- The functions of one section. Their rows stay in the section.
use Rattle.std.specs.Option.{option_map}
use Rattle.std.proofs.Common.{◌≡◌, ℕ, All, List, [], ◌∷◌, ◌++◌, refl, sym, ap, subst, ◌∙◌}
use Rattle.std.proofs.lemmas.List.{map-append}
use Rattle.std.proofs.lemmas.List.Elements.{All-nil, All-cons, All-append}
use Rattle.sf_decode.specs.declared.view.View.{View}
use Rattle.sf_decode.specs.Entry.{entry_place}
use Rattle.sf_functions.specs.Neighbours.{first_overlap}
use Rattle.sf_functions.specs.Order.{IsInOrder}
use Rattle.sf_functions.proofs.ByStart.{seen_in_order}
use Rattle.sf_functions.proofs.OverlapsSeen.{made_of_overlap}
use Rattle.sf_merge.specs.declared.in_section.SectionEntry.{SectionEntry}
use Rattle.sf_merge.specs.declared.located.Located.{Located}
use Rattle.sf_merge.specs.InSection.{AreSectionEntries, IsEntry, all_at, entry_size, entry_start, located_at}
use Rattle.sf_merge.specs.Located.{located_size, located_start}
use Rattle.sf_merge.specs.OneSection.{later_entry, shared_entry}

-- ---- one entry
pub all_more : (view : View) (entries : List SectionEntry) (e : SectionEntry) → all_at view (entries ++ e ∷ []) ≡ all_at view entries ++ located_at view e ∷ []
all_more view entries e = map-append (located_at view) entries (e ∷ [])

pub entries_more : (view : View) (entries : List SectionEntry) (e : SectionEntry) → All (IsEntry view) entries → IsEntry view e → All (IsEntry view) (entries ++ e ∷ [])
entries_more view entries e each h = All-append (IsEntry view) entries (e ∷ []) each (All-cons (IsEntry view) e [] h (All-nil (IsEntry view)))

-- ---- in order
pub in_order : (view : View) (old new : List SectionEntry) (all : List Located) → All (IsEntry view) old → all_at view old ≡ all → IsInOrder entry_start old new → IsInOrder located_start all (all_at view new)
in_order view old new all each are order =
    subst (λ (ls : List Located). IsInOrder located_start ls (all_at view new)) are
    (seen_in_order (located_at view) entry_start located_start old new (λ k d lt. sym (each k d lt).start) order)

-- ---- overlaps
abbrev pub number_of : (bytes : List ℕ) → SectionEntry × SectionEntry → ℕ
number_of bytes pair = entry_place bytes pair.1.number

shared_in : (bytes : List ℕ) (view : View) (entries : List SectionEntry) → All (IsEntry view) entries → shared_entry bytes (all_at view entries) ≡ option_map (number_of bytes) (first_overlap entry_start entry_size entries)
unfolding shared_entry
shared_in bytes view entries each =
    made_of_overlap (located_at view) entry_start entry_size located_start located_size (later_entry bytes) (number_of bytes) (λ pair. refl) entries
    (λ k d lt. (sym (each k d lt).start, sym (each k d lt).size))

pub overlaps_are : (bytes : List ℕ) (entries : List SectionEntry) (functions : List Located) → AreSectionEntries entries functions → option_map (number_of bytes) (first_overlap entry_start entry_size entries) ≡ shared_entry bytes functions
overlaps_are bytes entries functions h = sym (ap (shared_entry bytes) h.are ∙ shared_in bytes h.view entries h.each)
