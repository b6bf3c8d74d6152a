-- The one section with call frame information, by its number.
use Rattle.std.proofs.Common.{◌≡◌, ◌<◌, ◌==◌, ℕ, Bool, true, false, List, sym, ap, refl, ◌∙◌, eq-eqb, eqb-true}
use Rattle.elf_read.specs.Sections.{section_count, is_eh_frame}

by_answer : (file : List ℕ) (i f : ℕ) (here same : Bool) → is_eh_frame file i ≡ here → (i == f) ≡ same → is_eh_frame file f ≡ true → (here ≡ true → i ≡ f) → same ≡ here
by_answer file i f true true is equal frame only = refl
by_answer file i f false false is equal frame only = refl
by_answer file i f true false is equal frame only = sym equal ∙ eq-eqb i f (only refl)
by_answer file i f false true is equal frame only = sym frame ∙ ap (is_eh_frame file) (sym (eqb-true i f equal)) ∙ is

pub number_is : (file : List ℕ) (i f : ℕ) → is_eh_frame file f ≡ true → ((k : ℕ) → k < section_count file → is_eh_frame file k ≡ true → k ≡ f) → i < section_count file
    → (i == f) ≡ is_eh_frame file i
number_is file i f frame only below = by_answer file i f (is_eh_frame file i) (i == f) refl refl frame (only i below)
