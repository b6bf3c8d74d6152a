-- A load address that C has is the one of the only segment that the mapping can be of.
use Rattle.std.specs.Prelude.{◌==◌, Option, Some, None, is_some, unwrap_or, if◌then◌else◌}
use Rattle.std.proofs.Common.{◌≡◌, ℕ, Bool, true, false, List, Result, Ok, Err, refl, sym, ap, subst, ◌∙◌, arith}
use Rattle.elf_load.specs.declared.fault.LoadFault.{LoadFault}
use Rattle.elf_load.specs.declared.fault.LoadFault.TheVariants.{Elf, NotLoaded}
use Rattle.elf_load.specs.declared.mapping.Mapping.{Mapping}
use Rattle.elf_load.specs.Loading.{LoadingView, loading_of}
use Rattle.elf_load.specs.Segments.{IsLoadOf}
use Rattle.elf_load.proofs.Loads.{loading_has_load}
use Rattle.sf_link_c.specs.declared.placing.KiblawenPlaced.{KiblawenPlaced}
use Rattle.sf_link_c.specs.Omissions.{flag}
use Rattle.sf_link_c.specs.Placing.{is_fit, load_in, loading_answer, no_place, placing_answer}
use Rattle.sf_link_c.specs.Refusals.{no_refusal}

load_back : (load : Option ℕ) → (if flag (is_some load) == 0 then None else Some (unwrap_or load 0)) ≡ load
load_back None = refl
load_back (Some n) = refl

by_loading : (page : ℕ) (mapping : Mapping) (bytes : List ℕ) (loading : Result LoadingView LoadFault) (place : KiblawenPlaced) → loading_of page mapping bytes ≡ loading → (0, place) ≡ loading_answer loading
    → IsLoadOf page mapping bytes (load_in place)
by_loading page mapping bytes (Ok view) place is same =
    let shown : load_in place ≡ view.load = ap (λ (given : ℕ × KiblawenPlaced). load_in given.1) same ∙ load_back view.load in
    subst (IsLoadOf page mapping bytes) (sym shown) (loading_has_load page mapping bytes view is)
by_loading page mapping bytes (Err NotLoaded) place is same =
    let other : 0 ≡ 1 = ap (λ (given : ℕ × KiblawenPlaced). given.0) same in absurd (omega (other, arith))
by_loading page mapping bytes (Err (Elf fault)) place is same =
    let other : 0 ≡ 2 = ap (λ (given : ℕ × KiblawenPlaced). given.0) same in absurd (omega (other, arith))

pub placed_load : (page : ℕ) (mapping : Mapping) (bytes : List ℕ) (given : ℕ × KiblawenPlaced) → given ≡ placing_answer bytes page mapping.start mapping.offset → given.0 ≡ 0 → IsLoadOf page mapping bytes (load_in given.1)
placed_load page mapping bytes given is made = by (is_fit bytes page) (ap (λ (n : ℕ). (n, given.1)) (sym made) ∙ is)
  where
    by : (fit : Bool) → (0, given.1) ≡ (if fit then loading_answer (loading_of page mapping bytes) else (6, no_place no_refusal)) → IsLoadOf page mapping bytes (load_in given.1)
    by true same = by_loading page mapping bytes (loading_of page mapping bytes) given.1 refl same
    by false same = let other : 0 ≡ 6 = ap (λ (g : ℕ × KiblawenPlaced). g.0) same in absurd (omega (other, arith))
