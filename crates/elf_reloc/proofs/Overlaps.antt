-- Fields that may overlap, one after the other.
use Rattle.std.proofs.Common.{◌≡◌, ℕ, suc, ◌+◌, ◌<◌, ◌≤◌, Bool, true, false, None, List, [], ◌∷◌, length, get_or, drop, Ok, Err, refl, ap, ◌∙◌, arith, drop-cons, nat_lt, if◌then◌else◌}
use Rattle.std.proofs.lemmas.List.{drop_all}
use Rattle.elf_reloc.specs.declared.fault.RelocFault.TheVariants.{Twice}
use Rattle.elf_reloc.specs.declared.fix.RelocatedField.{RelocatedField}
use Rattle.elf_reloc.specs.declared.table.Range.TheVariants.{Any}
use Rattle.elf_reloc.specs.Order.{overlap_check}
use Rattle.elf_reloc.specs.Table.{width_of}

cons : (end : ℕ) (f : RelocatedField) (fs : List RelocatedField) → overlap_check end (f ∷ fs) ≡ (if nat_lt f.place end then Err (Twice f.index) else overlap_check (f.place + width_of f.range) fs)
unfolding overlap_check
cons end f fs = refl

nil : (end : ℕ) → overlap_check end [] ≡ Ok tt
unfolding overlap_check
nil end = refl

opened : (fixes : List RelocatedField) (end i : ℕ) (d : RelocatedField) → i < length fixes
    → overlap_check end (drop i fixes) ≡ (if nat_lt (get_or fixes i d).place end then Err (Twice (get_or fixes i d).index) else overlap_check ((get_or fixes i d).place + width_of (get_or fixes i d).range) (drop (i + 1) fixes))
opened fixes end i d within =
    let next : suc i ≡ i + 1 = omega arith in
    let rest : drop i fixes ≡ get_or fixes i d ∷ drop (i + 1) fixes = drop-cons fixes i d within ∙ ap (λ (k : ℕ). get_or fixes i d ∷ drop k fixes) next in
    ap (overlap_check end) rest ∙ cons end (get_or fixes i d) (drop (i + 1) fixes)

pub stops : (fixes : List RelocatedField) (end i : ℕ) (d : RelocatedField) → i < length fixes → nat_lt (get_or fixes i d).place end ≡ true
    → overlap_check end (drop i fixes) ≡ Err (Twice (get_or fixes i d).index)
stops fixes end i d within test =
    opened fixes end i d within
    ∙ ap (λ (b : Bool). if b then Err (Twice (get_or fixes i d).index) else overlap_check ((get_or fixes i d).place + width_of (get_or fixes i d).range) (drop (i + 1) fixes)) test

pub goes_on : (fixes : List RelocatedField) (end i : ℕ) (d : RelocatedField) → i < length fixes → nat_lt (get_or fixes i d).place end ≡ false
    → overlap_check end (drop i fixes) ≡ overlap_check ((get_or fixes i d).place + width_of (get_or fixes i d).range) (drop (i + 1) fixes)
goes_on fixes end i d within test =
    opened fixes end i d within
    ∙ ap (λ (b : Bool). if b then Err (Twice (get_or fixes i d).index) else overlap_check ((get_or fixes i d).place + width_of (get_or fixes i d).range) (drop (i + 1) fixes)) test

pub ends : (fixes : List RelocatedField) (end i : ℕ) → length fixes ≤ i → overlap_check end (drop i fixes) ≡ Ok tt
ends fixes end i past = ap (overlap_check end) (drop_all i fixes past) ∙ nil end

-- what stands for an element past the end
abbrev pub no_fix : RelocatedField
no_fix = record { place = 0; index = 0; range = Any; value = None; dropped = false }
