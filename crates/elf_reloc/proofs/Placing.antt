-- Fields that are written and the fields on which they lie, one after the other.
use Rattle.std.proofs.Common.{◌≡◌, ℕ, suc, ◌+◌, ◌<◌, ◌≤◌, Bool, true, false, List, [], ◌∷◌, length, get_or, drop, Ok, Err, refl, ap, ◌∙◌, arith, drop-cons, if◌then◌else◌}
use Rattle.std.proofs.lemmas.List.{drop_all}
use Rattle.sf_bytes.specs.declared.field.Field.{Field}
use Rattle.elf_reloc.specs.declared.fault.RelocFault.TheVariants.{Place}
use Rattle.elf_reloc.specs.declared.fix.RelocatedField.{RelocatedField}
use Rattle.elf_reloc.specs.Order.{places_check, lies_on}

pub cons : (fields : List Field) (f : RelocatedField) (fs : List RelocatedField) → places_check fields (f ∷ fs) ≡ (if lies_on fields f then places_check fields fs else Err (Place f.index))
unfolding places_check
cons fields f fs = refl

nil : (fields : List Field) → places_check fields [] ≡ Ok tt
unfolding places_check
nil fields = refl

opened : (fields : List Field) (fixes : List RelocatedField) (i : ℕ) (d : RelocatedField) → i < length fixes
    → places_check fields (drop i fixes) ≡ (if lies_on fields (get_or fixes i d) then places_check fields (drop (i + 1) fixes) else Err (Place (get_or fixes i d).index))
opened fields fixes i d within =
    let next : suc i ≡ i + 1 = omega arith in
    let rest : drop i fixes ≡ get_or fixes i d ∷ drop (i + 1) fixes = drop-cons fixes i d within ∙ ap (λ (k : ℕ). get_or fixes i d ∷ drop k fixes) next in
    ap (places_check fields) rest ∙ cons fields (get_or fixes i d) (drop (i + 1) fixes)

pub stops : (fields : List Field) (fixes : List RelocatedField) (i : ℕ) (d : RelocatedField) → i < length fixes → lies_on fields (get_or fixes i d) ≡ false
    → places_check fields (drop i fixes) ≡ Err (Place (get_or fixes i d).index)
stops fields fixes i d within test =
    opened fields fixes i d within
    ∙ ap (λ (b : Bool). if b then places_check fields (drop (i + 1) fixes) else Err (Place (get_or fixes i d).index)) test

pub goes_on : (fields : List Field) (fixes : List RelocatedField) (i : ℕ) (d : RelocatedField) → i < length fixes → lies_on fields (get_or fixes i d) ≡ true
    → places_check fields (drop i fixes) ≡ places_check fields (drop (i + 1) fixes)
goes_on fields fixes i d within test =
    opened fields fixes i d within
    ∙ ap (λ (b : Bool). if b then places_check fields (drop (i + 1) fixes) else Err (Place (get_or fixes i d).index)) test

pub ends : (fields : List Field) (fixes : List RelocatedField) (i : ℕ) → length fixes ≤ i → places_check fields (drop i fixes) ≡ Ok tt
ends fields fixes i past = ap (places_check fields) (drop_all i fixes past) ∙ nil fields
