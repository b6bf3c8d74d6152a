-- The sections of a file that was placed.
use Rattle.std.specs.Prelude.{◌⊎◌}
use Rattle.std.proofs.Common.{◌≡◌, ℕ, ◌+◌, ◌-◌, ◌%◌, ◌^◌, Bool, List, map, Option, Result, Ok, Err, refl, sym, ap, ◌∙◌, inl, inr}
use Rattle.elf_read.specs.Checking.{numbers_below}
use Rattle.elf_read.specs.Header.{arch_of}
use Rattle.elf_read.specs.Sections.{section_bytes, section_count}
use Rattle.elf_place.specs.declared.fault.PlaceFault.{PlaceFault}
use Rattle.elf_place.specs.declared.fault.PlaceFault.TheVariants as place_faults
use Rattle.elf_place.specs.declared.placed.Placed.{Placed}
use Rattle.elf_place.specs.Dropped.{dropped_sections}
use Rattle.elf_place.specs.Place.{Fails, address_of, eh_frames_below, place_check, shift_of}
use Rattle.elf_place.specs.Views as view
use Rattle.elf_reloc.specs.declared.fault.RelocFault.{RelocFault}
use Rattle.elf_reloc.specs.declared.fix.RelocatedField.{RelocatedField}
use Rattle.elf_reloc.specs.Reading.{placed_address}
use Rattle.frame_functions.specs.declared.fault.AsmFault.{AsmFault}
use Rattle.frame_functions.specs.declared.fault.AsmFault.TheVariants as asm
use Rattle.sf_model.specs.declared.form.Form.TheVariants.{Elf}
use Rattle.frame_functions.specs.Fault.{wraps_place}
use Rattle.frame_functions.specs.CallFrames.{CallFrames}
use Rattle.frame_functions.specs.Functions.{Function, sections_functions}
use Rattle.sf_asm.specs.Functions.{◌>>=◌, named, object_functions}
use Rattle.elf_groups.specs.Groups.{dropped_groups}
use Rattle.sf_asm.specs.Placing.{IsPlacing}
use Rattle.frame_functions.specs.Relocated.{relocations_of}
use Rattle.sf_asm.specs.Sections.{dropped_after, placing_of, placed_section, linked_check}

-- ---- placing
abbrev placing_by : List ℕ → List (Option ℕ) → List Bool → view.Placing
placing_by f a d = record { file = f; addresses = a; dropped = d }

same_placing : (f g : List ℕ) (a b : List (Option ℕ)) (d e : List Bool) → f ≡ g → a ≡ b → d ≡ e → placing_by f a d ≡ placing_by g b e
same_placing f g a b d e p q r =
    ap (λ (x : List ℕ). placing_by x a d) p ∙ ap (λ (x : List (Option ℕ)). placing_by g x d) q ∙ ap (λ (x : List Bool). placing_by g b x) r

pub is_placing : (seen : List (List ℕ)) (file : List ℕ) (base : ℕ) (p : Placed) (gone : List ℕ) → gone ≡ dropped_groups seen file → view.placed_file p ≡ file → view.shift_in p ≡ shift_of file base
    → view.dropped p ≡ dropped_sections file gone → view.addresses p ≡ map (address_of file (dropped_sections file gone) base) (numbers_below (section_count file))
    → view.eh_frames p ≡ eh_frames_below file (dropped_sections file gone) (section_count file) → IsPlacing seen file base p
is_placing seen file base p gone e is shift dropped addresses sections = record {
  placing = same_placing (view.placed_file p) file (view.addresses p) _ (view.dropped p) _ is
      (addresses ∙ ap (λ (g : List ℕ). map (address_of file (dropped_sections file g) base) (numbers_below (section_count file))) e)
      (dropped ∙ ap (dropped_sections file) e);
  shift = shift;
  sections = sections ∙ ap (λ (g : List ℕ). eh_frames_below file (dropped_sections file g) (section_count file)) e;
}

named_place : (e : PlaceFault) (check : Result (Unit {0}) PlaceFault) → check ≡ Err e → named asm.Place check ≡ Err (asm.Place e)
named_place e check h = ap (named asm.Place) h

pub place_wrapped : (e : PlaceFault) (check : Result (Unit {0}) PlaceFault) → Fails e check → (wraps_place e ≡ asm.NoMemory) ⊎ (named asm.Place check ≡ Err (wraps_place e))
place_wrapped place_faults.NoMemory check h = inl refl
place_wrapped (place_faults.Align section) check h = inr (named_place (place_faults.Align section) check h)
place_wrapped (place_faults.AddressOverflow section) check h = inr (named_place (place_faults.AddressOverflow section) check h)
place_wrapped (place_faults.NoBits section) check h = inr (named_place (place_faults.NoBits section) check h)

-- ---- a section of a placed file
abbrev pub frames_by : (number : ℕ) → (bytes : List ℕ) → (address shift : ℕ) → Result (List RelocatedField) RelocFault → CallFrames
frames_by number bytes address shift relocations = record { number = number; bytes = bytes; address = address; shift = shift; relocations = relocations }

pub placed_is : (p : view.Placing) (shift number address : ℕ) (bytes : List ℕ) (given : Result (List RelocatedField) RelocFault) → bytes ≡ section_bytes p.file number → address ≡ (placed_address p number + (2 ^ 64 - shift)) % 2 ^ 64
    → given ≡ relocations_of p number → frames_by number bytes address shift given ≡ placed_section p shift number
placed_is p shift number address bytes given e f g =
    ap (λ (x : List ℕ). frames_by number x address shift given) e
    ∙ ap (λ (x : ℕ). frames_by number (section_bytes p.file number) x shift given) f
    ∙ ap (λ (x : Result (List RelocatedField) RelocFault). frames_by number (section_bytes p.file number) ((placed_address p number + (2 ^ 64 - shift)) % 2 ^ 64) shift x) g

-- ---- a file
abbrev by_checks : (item : ℕ) → (seen : List (List ℕ)) → (file : List ℕ) → (base : ℕ) → Result (Unit {0}) AsmFault → Result (Unit {0}) PlaceFault → Result (List Function) AsmFault
by_checks item seen file base linked placed =
    (linked >>= λ _. named asm.Place placed >>= λ _. Ok (map (placed_section (placing_of (dropped_groups seen file) file base) (shift_of file base)) (eh_frames_below file (dropped_after seen file) (section_count file))))
    >>= sections_functions (arch_of file) item

abbrev pub file_functions : (item : ℕ) → (seen : List (List ℕ)) → (file : List ℕ) → (base : ℕ) → Result (List Function) AsmFault
file_functions item seen file base = object_functions item seen (record { form = Elf; bytes = file; base = base })

pub file_refused : (item : ℕ) (seen : List (List ℕ)) (file : List ℕ) (base : ℕ) (fault : AsmFault) → linked_check file ≡ Err fault → file_functions item seen file base ≡ Err fault
file_refused item seen file base fault e = ap (λ (x : Result (Unit {0}) AsmFault). by_checks item seen file base x (place_check file (dropped_after seen file) base)) e

unplaced : (item : ℕ) (seen : List (List ℕ)) (file : List ℕ) (base : ℕ) (fault : AsmFault) (check : Result (Unit {0}) PlaceFault) → named asm.Place check ≡ Err fault → by_checks item seen file base (Ok tt) check ≡ Err fault
unplaced item seen file base fault (Ok x) e = cc
unplaced item seen file base fault (Err x) e = ap Err (let is : asm.Place x ≡ fault = cc in is)

pub file_unplaced : (item : ℕ) (seen : List (List ℕ)) (file : List ℕ) (base : ℕ) (fault : AsmFault) → linked_check file ≡ Ok tt → named asm.Place (place_check file (dropped_after seen file) base) ≡ Err fault → file_functions item seen file base ≡ Err fault
file_unplaced item seen file base fault e f =
    ap (λ (x : Result (Unit {0}) AsmFault). by_checks item seen file base x (place_check file (dropped_after seen file) base)) e
    ∙ unplaced item seen file base fault (place_check file (dropped_after seen file) base) f

pub file_is : (item : ℕ) (seen : List (List ℕ)) (file : List ℕ) (base : ℕ) (p : Placed) → linked_check file ≡ Ok tt → place_check file (dropped_after seen file) base ≡ Ok tt → IsPlacing seen file base p
    → file_functions item seen file base ≡ sections_functions (arch_of file) item (map (placed_section (view.placing p) (view.shift_in p)) (view.eh_frames p))
file_is item seen file base p e f placed =
    ap (λ (x : Result (Unit {0}) AsmFault). by_checks item seen file base x (place_check file (dropped_after seen file) base)) e
    ∙ ap (λ (x : Result (Unit {0}) PlaceFault). by_checks item seen file base (Ok tt) x) f
    ∙ ap (λ (x : view.Placing). sections_functions (arch_of file) item (map (placed_section x (shift_of file base)) (eh_frames_below file (dropped_after seen file) (section_count file)))) (sym placed.placing)
    ∙ ap (λ (x : ℕ). sections_functions (arch_of file) item (map (placed_section (view.placing p) x) (eh_frames_below file (dropped_after seen file) (section_count file)))) (sym placed.shift)
    ∙ ap (λ (x : List ℕ). sections_functions (arch_of file) item (map (placed_section (view.placing p) (view.shift_in p)) x)) (sym placed.sections)
