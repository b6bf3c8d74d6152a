-- What is read of a section lies in its bytes, and its values are numbers of 64 bits.
use Rattle.std.proofs.Common.{◌≡◌, ℕ, suc, ◌+◌, ◌-◌, ◌%◌, ◌^◌, ◌<◌, ◌≤◌, Bool, true, false, List, [], ◌∷◌, length, Option, Some, None, Result, Ok, Err, refl, sym, ap, ◌∙◌, subst, arith, nat_lt, ltb-false, if◌then◌else◌}
use Rattle.std.specs.Prelude.{◌++◌, option_to_list}
use Rattle.std.specs.List.{All}
use Rattle.std.specs.List.Sorted.{IsPermutation}
use Rattle.std.proofs.Math.Nat.{mod-lt}
use Rattle.std.proofs.lemmas.List.Elements.{All-nil, All-cons}
use Rattle.std.proofs.lemmas.List.Sorted.{All-permutation}
use Rattle.elf_read.specs.Header.{is_rel}
use Rattle.elf_read.specs.Sections.{section_bytes}
use Rattle.elf_place.specs.Relocations.{relocation_sections}
use Rattle.elf_place.specs.Views.{Placing}
use Rattle.elf_reloc.specs.declared.fault.RelocFault.{RelocFault}
use Rattle.elf_reloc.specs.declared.fault.RelocFault.TheVariants as faults
use Rattle.elf_reloc.specs.declared.fix.RelocatedField.{RelocatedField}
use Rattle.elf_reloc.specs.declared.table.Effect.{Effect}
use Rattle.elf_reloc.specs.declared.table.Effect.TheVariants.{Nothing, Absolute, Relative}
use Rattle.elf_reloc.specs.declared.table.Range.{Range}
use Rattle.elf_reloc.specs.declared.target.Target.{Target}
use Rattle.elf_reloc.specs.declared.target.Target.TheVariants.{Address, Unresolved, Dropped}
use Rattle.elf_reloc.specs.Patched.{AreInside}
use Rattle.elf_reloc.specs.Reading as spec
use Rattle.elf_reloc.specs.Reading.{◌>>=◌, Relocation, written, aimed, inside, applied, entry_fix, fixes_from, rel_check, relocations_in, object_fixes, section_fixes}
use Rattle.elf_reloc.specs.Table.{width_of, fits}

-- a value that is known is a number of 64 bits
abbrev pub IsSmall : RelocatedField → Type 0
IsSmall f = (v : ℕ) → f.value ≡ Some v → v < 2 ^ 64

-- a dropped one's value is not known
abbrev pub IsHidden : RelocatedField → Type 0
IsHidden f = f.dropped ≡ true → f.value ≡ None

abbrev IsInside : ℕ → RelocatedField → Type 0
IsInside len f = (f.place + width_of f.range ≤ len) × IsSmall f × IsHidden f

-- what a choice answered, and by which test
picked : {A E : Type 0} → (b : Bool) (x y : A) (e : E) → (if b then Ok x else Err e) ≡ Ok y → x ≡ y
picked true x y e h = cc h
picked false x y e h = absurd (cc h)

refused_unless : {A E : Type 0} → (b : Bool) (r : Result A E) (e : E) (y : A) → (if b then Err e else r) ≡ Ok y → (b ≡ false) × (r ≡ Ok y)
refused_unless true r e y h = absurd (cc h)
refused_unless false r e y h = (refl, h)

abbrev okay : {A : Type 0} → A → Result A RelocFault
okay x = Ok x

ok_is : {A : Type 0} → (x y : A) → okay x ≡ okay y → x ≡ y
ok_is x y h = cc h

bound : {A B : Type 0} → (r : Result A RelocFault) (g : A → Result B RelocFault) (y : B) → (r >>= g) ≡ Ok y → (x : A) × (r ≡ Ok x) × (g x ≡ Ok y)
bound (Ok x) g y h = (x, refl, h)
bound (Err e) g y h = absurd (cc h)

small_value : (f : RelocatedField) (o : Option ℕ) → o ≡ f.value → ((v : ℕ) → o ≡ Some v → v < 2 ^ 64) → IsSmall f
small_value f o e small v h = small v (e ∙ h)

abbrev some : ℕ → Option ℕ
some v = Some v

some_small : (u : ℕ) → u < 2 ^ 64 → (v : ℕ) → some u ≡ Some v → v < 2 ^ 64
some_small u h v e = let same : u ≡ v = cc e in subst (λ (k : ℕ). k < 2 ^ 64) same h

none_small : (v : ℕ) → None ≡ some v → v < 2 ^ 64
none_small v e = absurd (cc e)

not_dropped : (f : RelocatedField) → f.dropped ≡ false → IsHidden f
not_dropped f kept gone = absurd (cc (sym gone ∙ kept))

aimed_at : (place index : ℕ) (form : Range) (value : ℕ → ℕ) (target : Target) (f : RelocatedField) → ((s : ℕ) → value s < 2 ^ 64) → aimed place index form value target ≡ Ok f → (f.place ≡ place) × (f.range ≡ form) × IsSmall f × IsHidden f
unfolding written
aimed_at place index form value (Address s) f small h =
    let e : spec.fix place index form (Some (value s)) false ≡ f = picked (fits form (value s)) (spec.fix place index form (Some (value s)) false) f (faults.Range index) h in
    (sym (ap (λ (g : RelocatedField). g.place) e), sym (ap (λ (g : RelocatedField). g.range) e), small_value f (Some (value s)) (ap (λ (g : RelocatedField). g.value) e) (some_small (value s) (small s)), not_dropped f (sym (ap (λ (g : RelocatedField). g.dropped) e)))
aimed_at place index form value Unresolved f small h =
    let e : spec.fix place index form None false ≡ f = cc h in
    (sym (ap (λ (g : RelocatedField). g.place) e), sym (ap (λ (g : RelocatedField). g.range) e), small_value f None (ap (λ (g : RelocatedField). g.value) e) none_small, λ _. sym (ap (λ (g : RelocatedField). g.value) e))
aimed_at place index form value Dropped f small h =
    let e : spec.fix place index form None true ≡ f = cc h in
    (sym (ap (λ (g : RelocatedField). g.place) e), sym (ap (λ (g : RelocatedField). g.range) e), small_value f None (ap (λ (g : RelocatedField). g.value) e) none_small, λ _. sym (ap (λ (g : RelocatedField). g.value) e))

absolute_small : (addend s : ℕ) → (s + addend) % 2 ^ 64 < 2 ^ 64
absolute_small addend s = mod-lt (s + addend) (omega arith)

relative_small : (addend place s : ℕ) → (s + addend + (2 ^ 64 - place)) % 2 ^ 64 < 2 ^ 64
relative_small addend place s = mod-lt (s + addend + (2 ^ 64 - place)) (omega arith)

inside_is : (len place index : ℕ) (form : Range) (value : ℕ → ℕ) (target : Target) (f : RelocatedField) → ((s : ℕ) → value s < 2 ^ 64) → inside len place index form (aimed place index form value target) ≡ Ok (Some f) → IsInside len f
unfolding inside
inside_is len place index form value target f small h =
    let p = refused_unless (nat_lt len (place + width_of form)) (aimed place index form value target >>= λ g. Ok (Some g)) (faults.OutOfSection index) (Some f) h in
    let q = bound (aimed place index form value target) (λ g. Ok (Some g)) (Some f) p.1 in
    let same : q.0 ≡ f = cc (q.2) in
    let at = aimed_at place index form value target q.0 small q.1 in
    let low : place + width_of form ≤ len = ltb-false len (place + width_of form) p.0 in
    subst (λ (g : RelocatedField). IsInside len g) same
    (subst (λ (n : ℕ). n + width_of q.0.range ≤ len) (sym at.0) (subst (λ (r : Range). place + width_of r ≤ len) (sym at.1) low), at.2, at.3)

applied_inside : (effect : Option Effect) (len address place index addend : ℕ) (target : Target) (f : RelocatedField) → applied effect len address place index addend target ≡ Ok (Some f) → IsInside len f
applied_inside None len address place index addend target f h = absurd (cc h)
applied_inside (Some Nothing) len address place index addend target f h = absurd (cc h)
applied_inside (Some (Absolute form)) len address place index addend target f h = inside_is len place index form (λ s. (s + addend) % 2 ^ 64) target f (absolute_small addend) h
applied_inside (Some (Relative form)) len address place index addend target f h = inside_is len place index form (λ s. (s + addend + (2 ^ 64 - (address + place) % 2 ^ 64)) % 2 ^ 64) target f (relative_small addend ((address + place) % 2 ^ 64)) h

entry_inside : (p : Placing) (section index i k : ℕ) (f : RelocatedField) → entry_fix p section index i k ≡ Ok (Some f) → IsInside (length (section_bytes p.file section)) f
unfolding entry_fix
entry_inside p section index i k f h = applied_inside _ _ _ _ _ _ _ f h

with_fix_inside : (len : ℕ) (o : Option RelocatedField) (fixes : List RelocatedField) → ((f : RelocatedField) → o ≡ Some f → IsInside len f) → All (IsInside len) fixes → All (IsInside len) (option_to_list o ++ fixes)
with_fix_inside len None fixes one all = all
with_fix_inside len (Some f) fixes one all = All-cons (IsInside len) f fixes (one f refl) all

fixes_inside : (p : Placing) (section place : ℕ) (left : List Relocation) (fixes : List RelocatedField) → fixes_from p section place left ≡ Ok fixes → All (IsInside (length (section_bytes p.file section))) fixes
unfolding fixes_from
fixes_inside p section place [] fixes h =
    subst (λ (fs : List RelocatedField). All (IsInside (length (section_bytes p.file section))) fs) (ok_is [] fixes h) (All-nil (IsInside (length (section_bytes p.file section))))
fixes_inside p section place (r ∷ left) fixes h =
    let q = bound (entry_fix p section place r.table r.entry) (λ f. fixes_from p section (place + 1) left >>= λ others. Ok (option_to_list f ++ others)) fixes h in
    let t = bound (fixes_from p section (place + 1) left) (λ others. Ok (option_to_list q.0 ++ others)) fixes q.2 in
    subst (λ (fs : List RelocatedField). All (IsInside (length (section_bytes p.file section))) fs) (ok_is (option_to_list q.0 ++ t.0) fixes t.2)
    (with_fix_inside (length (section_bytes p.file section)) q.0 t.0
    (λ f found. entry_inside p section place r.table r.entry f (q.1 ∙ ap (λ (o : Option RelocatedField). Ok o) found))
    (fixes_inside p section (place + 1) left t.0 t.1))

object_inside : (p : Placing) (section : ℕ) (fixes : List RelocatedField) → object_fixes p section ≡ Ok fixes → All (IsInside (length (section_bytes p.file section))) fixes
unfolding object_fixes
object_inside p section fixes h =
    let q = bound (rel_check p.file (relocation_sections p.file section)) (λ _. fixes_from p section 0 (relocations_in p.file (relocation_sections p.file section))) fixes h in
    fixes_inside p section 0 (relocations_in p.file (relocation_sections p.file section)) fixes q.2

fixes_cases : (p : Placing) (section : ℕ) (t : List RelocatedField) (b : Bool) → (if b then object_fixes p section else Ok []) ≡ Ok t → All (IsInside (length (section_bytes p.file section))) t
fixes_cases p section t true h = object_inside p section t h
fixes_cases p section t false h =
    subst (λ (fs : List RelocatedField). All (IsInside (length (section_bytes p.file section))) fs) (ok_is [] t h) (All-nil (IsInside (length (section_bytes p.file section))))

pub read_inside : (p : Placing) (section : ℕ) (t : List RelocatedField) → section_fixes p section ≡ Ok t → All (IsInside (length (section_bytes p.file section))) t
unfolding section_fixes object_fixes
read_inside p section t h = fixes_cases p section t (is_rel p.file) h

pub from_all : (len : ℕ) (fs : List RelocatedField) → All (IsInside len) fs → AreInside len fs
from_all len [] all = tt
from_all len (f ∷ fs) all = ((all 0 f (omega arith)).0, from_all len fs (λ k d h. all (suc k) d (omega (arith, h))))

pub moved_inside : (len : ℕ) (fs gs : List RelocatedField) → IsPermutation fs gs → All (IsInside len) fs → AreInside len gs
moved_inside len fs gs moved all = from_all len gs (All-permutation (IsInside len) fs gs moved all)

-- the same of what was read and brought into order
pub reads_inside : (p : Placing) (section : ℕ) (t : List RelocatedField) (fixes : List RelocatedField) → section_fixes p section ≡ Ok t → IsPermutation t fixes → AreInside (length (section_bytes p.file section)) fixes
reads_inside p section t fixes read moved = moved_inside (length (section_bytes p.file section)) t fixes moved (read_inside p section t read)

pub reads_small : (p : Placing) (section : ℕ) (t : List RelocatedField) (fixes : List RelocatedField) → section_fixes p section ≡ Ok t → IsPermutation t fixes → All IsSmall fixes
reads_small p section t fixes read moved = λ k d within.
    (All-permutation (IsInside (length (section_bytes p.file section))) t fixes moved (read_inside p section t read) k d within).1

pub reads_hidden : (p : Placing) (section : ℕ) (t : List RelocatedField) (fixes : List RelocatedField) → section_fixes p section ≡ Ok t → IsPermutation t fixes → All IsHidden fixes
reads_hidden p section t fixes read moved = λ k d within.
    (All-permutation (IsInside (length (section_bytes p.file section))) t fixes moved (read_inside p section t read) k d within).2
