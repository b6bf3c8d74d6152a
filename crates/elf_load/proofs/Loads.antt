-- The load address is right for the only segment that a mapping can be of.
use Rattle.std.specs.Option.{option_map}
use Rattle.std.proofs.Common.{◌≡◌, ℕ, zero, suc, ◌<◌, List, [], ◌∷◌, get_or, Option, Some, None, Result, Ok, Err, refl, ap, subst, arith}
use Rattle.elf_read.specs.Header.{p_offset, p_vaddr}
use Rattle.elf_read.specs.declared.fault.ElfFault.{ElfFault}
use Rattle.elf_load.specs.declared.fault.LoadFault.{LoadFault}
use Rattle.elf_load.specs.declared.mapping.Mapping.{Mapping}
use Rattle.elf_load.specs.Loading.{LoadingView, headers_check, loading_checked, loading_from, loading_of, loading_to, page_after}
use Rattle.elf_load.specs.Segments.{IsLoadBy, IsLoadOf, IsLoadedAt, first_loaded, load_address, load_by, mapped_segments, only_one}

pub is_loaded_by : (mapping : Mapping) (vaddr place : ℕ) → IsLoadedAt (load_by mapping vaddr place) mapping vaddr place
is_loaded_by mapping vaddr place = omega arith

pub load_is_by : (mapping : Mapping) (file segments : List ℕ) → IsLoadBy segments mapping file (option_map (λ (i : ℕ). load_by mapping (p_vaddr file i) (p_offset file i)) (only_one segments))
load_is_by mapping file [] = λ one. omega (one, arith)
load_is_by mapping file (i ∷ []) = (refl, there)
  where
    there : (k d : ℕ) → k < 1 → IsLoadedAt (load_by mapping (p_vaddr file i) (p_offset file i)) mapping (p_vaddr file (get_or (i ∷ []) k d)) (p_offset file (get_or (i ∷ []) k d))
    there zero d lt = is_loaded_by mapping (p_vaddr file i) (p_offset file i)
    there (suc k) d lt = absurd (omega (lt, arith))
load_is_by mapping file (i ∷ j ∷ more) = λ one. omega (one, arith)

pub load_is : (page : ℕ) (mapping : Mapping) (file : List ℕ) → IsLoadOf page mapping file (load_address page mapping file)
unfolding load_address
load_is page mapping file = load_is_by mapping file (mapped_segments page mapping.offset file)

-- the same of a file that is loaded
abbrev load_in : Result LoadingView LoadFault → Option ℕ
load_in (Ok view) = view.load
load_in (Err fault) = None

pub loading_has_load : (page : ℕ) (mapping : Mapping) (file : List ℕ) (view : LoadingView) → loading_of page mapping file ≡ Ok view → IsLoadOf page mapping file view.load
unfolding loading_of
loading_has_load page mapping file view is = checked (headers_check file) (first_loaded file) is
  where
    after : (i : ℕ) (end : Result ℕ LoadFault) → loading_to page mapping file i end ≡ Ok view → IsLoadOf page mapping file view.load
    after i (Ok end) same = subst (IsLoadOf page mapping file) (ap load_in same) (load_is page mapping file)
    after i (Err fault) same = cc

    checked : (check : Result (Unit {0}) ElfFault) (first : Option ℕ) → loading_checked check (loading_from page mapping file first) ≡ Ok view → IsLoadOf page mapping file view.load
    checked (Ok passed) None same = cc
    checked (Ok passed) (Some i) same = after i (page_after page file) same
    checked (Err fault) first same = cc
