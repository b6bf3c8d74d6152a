-- Reading relocations one after the other gives what the list of all of them gives.
use Rattle.std.proofs.Common.{◌≡◌, ℕ, zero, suc, ◌+◌, ◌-◌, ◌<◌, ◌≤◌, Bool, true, false, List, [], ◌∷◌, ◌++◌, length, map, drop, get_or, Option, Some, None, Result, Ok, Err, refl, sym, ap, ◌∙◌, subst, arith, append_assoc, drop-cons, if◌then◌else◌}
use Rattle.std.specs.Prelude.{option_to_list}
use Rattle.std.proofs.lemmas.List.{append-nil, drop_all, length-append, map_push}
use Rattle.elf_read.specs.Checking.{numbers_below}
use Rattle.elf_read.specs.Sections.{entry_count}
use Rattle.elf_place.specs.Relocations.{numbers_of, relocation_sections}
use Rattle.elf_place.specs.Views.{Placing}
use Rattle.elf_place.specs.declared.relocations.RelocationSection.{RelocationSection}
use Rattle.elf_reloc.specs.declared.fault.RelocFault.{RelocFault}
use Rattle.elf_reloc.specs.declared.fault.RelocFault.TheVariants.{UnknownType, Range, Place, Twice, RelSection, OutOfSection, NoMemory}
use Rattle.elf_reloc.specs.declared.fix.RelocatedField.{RelocatedField}
use Rattle.elf_reloc.specs.declared.reading.FixesSoFar.{FixesSoFar}
use Rattle.elf_reloc.specs.Reading.{◌>>=◌, Relocation, entries_from, relocations_in, rel_check, has_addends, fixes_from, object_fixes, entry_fix, going_on, Fails, GoesOn, HoldsAll}

-- a fault that is known is how it fails
pub fails : {X : Type 0} → (e : RelocFault) (given : Result X RelocFault) → given ≡ Err e → Fails e given
fails (UnknownType k) given h = h
fails (Range k) given h = h
fails (Place k) given h = h
fails (Twice k) given h = h
fails (RelSection k) given h = h
fails (OutOfSection k) given h = h
fails NoMemory given h = tt

-- ---- lists of relocations
abbrev entry_of : (table entry : ℕ) → Relocation
entry_of table entry = record { table = table; entry = entry }

pub entries_from-none : (table first : ℕ) → entries_from table first 0 ≡ []
unfolding entries_from
entries_from-none table first = refl

entries_from-suc : (table first count : ℕ) → entries_from table first (suc count) ≡ record { table = table; entry = first } ∷ entries_from table (first + 1) count
unfolding entries_from
entries_from-suc table first count = refl

-- the entries that are left at entry k
pub entries_from-first : (table k count : ℕ) → k < count → entries_from table k (count - k) ≡ record { table = table; entry = k } ∷ entries_from table (k + 1) (count - (k + 1))
entries_from-first table k count within =
    let left : count - k ≡ suc (count - (k + 1)) = omega arith in
    ap (entries_from table k) left ∙ entries_from-suc table k (count - (k + 1))

pub entries_from-end : (table k count : ℕ) → count ≤ k → entries_from table k (count - k) ≡ []
entries_from-end table k count end =
    let left : count - k ≡ 0 = omega arith in
    ap (entries_from table k) left ∙ entries_from-none table k

pub relocations_in-none : (file : List ℕ) → relocations_in file [] ≡ []
unfolding relocations_in
relocations_in-none file = refl

-- one entry more
entries_from-push : (table first count : ℕ) → entries_from table first count ++ entry_of table (first + count) ∷ [] ≡ entries_from table first (suc count)
entries_from-push table first zero =
    let here : first + 0 ≡ first = omega arith in
    ap (λ (rs : List Relocation). rs ++ entry_of table (first + 0) ∷ []) (entries_from-none table first)
    ∙ ap (λ (k : ℕ). entry_of table k ∷ []) here
    ∙ ap (λ (rs : List Relocation). entry_of table first ∷ rs) (sym (entries_from-none table (first + 1)))
    ∙ sym (entries_from-suc table first 0)
entries_from-push table first (suc count) =
    let last : first + suc count ≡ (first + 1) + count = omega arith in
    ap (λ (rs : List Relocation). rs ++ entry_of table (first + suc count) ∷ []) (entries_from-suc table first count)
    ∙ ap (λ (k : ℕ). entry_of table first ∷ (entries_from table (first + 1) count ++ entry_of table k ∷ [])) last
    ∙ ap (λ (rs : List Relocation). entry_of table first ∷ rs) (entries_from-push table (first + 1) count)
    ∙ sym (entries_from-suc table first (suc count))

-- by their numbers, all of them
numbered : (table count : ℕ) → map (entry_of table) (numbers_below count) ≡ entries_from table 0 count
unfolding numbers_below
numbered table zero = sym (entries_from-none table 0)
numbered table (suc count) =
    let last : count ≡ 0 + count = omega arith in
    map_push (entry_of table) (numbers_below count) count
    ∙ ap (λ (rs : List Relocation). rs ++ entry_of table count ∷ []) (numbered table count)
    ∙ ap (λ (k : ℕ). entries_from table 0 count ++ entry_of table k ∷ []) last
    ∙ entries_from-push table 0 count

pub relocations_in-first : (file : List ℕ) (i : ℕ) (sections : List ℕ) → relocations_in file (i ∷ sections) ≡ entries_from i 0 (entry_count file i) ++ relocations_in file sections
unfolding relocations_in
relocations_in-first file i sections = ap (λ (rs : List Relocation). rs ++ relocations_in file sections) (numbered i (entry_count file i))

pub rel_check-none : (file : List ℕ) → rel_check file [] ≡ Ok tt
unfolding rel_check
rel_check-none file = refl

pub rel_check-first : (file : List ℕ) (i : ℕ) (sections : List ℕ) → rel_check file (i ∷ sections) ≡ (if has_addends file i then rel_check file sections else Err (RelSection i))
unfolding rel_check has_addends
rel_check-first file i sections = refl

-- ---- what they write
pub fixes_from-none : (p : Placing) (section place : ℕ) → fixes_from p section place [] ≡ Ok []
unfolding fixes_from
fixes_from-none p section place = refl

pub fixes_from-first : (p : Placing) (section place : ℕ) (r : Relocation) (left : List Relocation) → fixes_from p section place (r ∷ left)
    ≡ (entry_fix p section place r.table r.entry >>= λ f. fixes_from p section (place + 1) left >>= λ fixes. Ok (option_to_list f ++ fixes))
unfolding fixes_from
fixes_from-first p section place r left = refl

abbrev pub after_one : List RelocatedField → Option RelocatedField → List RelocatedField
after_one fixes None = fixes
after_one fixes (Some f) = fixes ++ f ∷ []

-- one that was read goes to the end of those so far
joined : (fixes : List RelocatedField) (f : Option RelocatedField) (rest : Result (List RelocatedField) RelocFault)
    → ((rest >>= λ others. Ok (option_to_list f ++ others)) >>= λ others. Ok (fixes ++ others)) ≡ (rest >>= λ others. Ok (after_one fixes f ++ others))
joined fixes f (Err e) = refl
joined fixes None (Ok others) = refl
joined fixes (Some f) (Ok others) = ap (λ (fs : List RelocatedField). Ok fs) (sym (append_assoc fixes (f ∷ []) others))

-- a relocation that is read: the next has the next number
pub goes_on : (p : Placing) (section next table entry : ℕ) (fixes : List RelocatedField) (f : Option RelocatedField) (left : List Relocation) → entry_fix p section next table entry ≡ Ok f
    → (fixes_from p section next (record { table = table; entry = entry } ∷ left) >>= λ others. Ok (fixes ++ others)) ≡ (fixes_from p section (next + 1) left >>= λ others. Ok (after_one fixes f ++ others))
goes_on p section next table entry fixes f left read =
    ap (λ (r : Result (List RelocatedField) RelocFault). r >>= λ others. Ok (fixes ++ others))
    (
    fixes_from-first p section next (record { table = table; entry = entry }) left
    ∙ ap (λ (r : Result (Option RelocatedField) RelocFault). r >>= λ o. fixes_from p section (next + 1) left >>= λ others. Ok (option_to_list o ++ others)) read
    )
    ∙ joined fixes f (fixes_from p section (next + 1) left)

-- one that is refused
pub stops : (p : Placing) (section next table entry : ℕ) (fixes : List RelocatedField) (e : RelocFault) (left : List Relocation) → entry_fix p section next table entry ≡ Err e
    → Fails e (fixes_from p section next (record { table = table; entry = entry } ∷ left) >>= λ others. Ok (fixes ++ others))
stops p section next table entry fixes e left refused =
    fails e _ (
    ap (λ (r : Result (List RelocatedField) RelocFault). r >>= λ others. Ok (fixes ++ others))
    (
    fixes_from-first p section next (record { table = table; entry = entry }) left
    ∙ ap (λ (r : Result (Option RelocatedField) RelocFault). r >>= λ o. fixes_from p section (next + 1) left >>= λ others. Ok (option_to_list o ++ others)) refused
    )
    )

-- nothing is left
pub ends : (p : Placing) (section next : ℕ) (fixes : List RelocatedField) → (fixes_from p section next [] >>= λ others. Ok (fixes ++ others)) ≡ Ok fixes
ends p section next fixes =
    ap (λ (r : Result (List RelocatedField) RelocFault). r >>= λ others. Ok (fixes ++ others)) (fixes_from-none p section next)
    ∙ ap (λ (fs : List RelocatedField). Ok fs) (append-nil fixes)

-- the same by what it leaves
pub goes_on_to : (p : Placing) (section next table entry : ℕ) (fixes : List RelocatedField) (f : Option RelocatedField) (left : List Relocation) (after : ℕ) (all : List RelocatedField) → entry_fix p section next table entry ≡ Ok f
    → after ≡ next + 1 → all ≡ after_one fixes f
    → (fixes_from p section next (record { table = table; entry = entry } ∷ left) >>= λ others. Ok (fixes ++ others)) ≡ (fixes_from p section after left >>= λ others. Ok (all ++ others))
goes_on_to p section next table entry fixes f left after all read number items =
    goes_on p section next table entry fixes f left read
    ∙ ap (λ (n : ℕ). fixes_from p section n left >>= λ others. Ok (after_one fixes f ++ others)) (sym number)
    ∙ ap (λ (fs : List RelocatedField). fixes_from p section after left >>= λ others. Ok (fs ++ others)) (sym items)

-- ---- the sections that are left
pub left-first : (xs : List RelocationSection) (i : ℕ) (d : RelocationSection) → i < length xs → numbers_of (drop i xs) ≡ (get_or xs i d).number ∷ numbers_of (drop (i + 1) xs)
left-first xs i d within =
    let next : suc i ≡ i + 1 = omega arith in
    ap (λ (ys : List RelocationSection). numbers_of ys) (drop-cons xs i d within)
    ∙ ap (λ (k : ℕ). (get_or xs i d).number ∷ numbers_of (drop k xs)) next

pub left-none : (xs : List RelocationSection) (i : ℕ) → length xs ≤ i → numbers_of (drop i xs) ≡ []
left-none xs i end = ap (λ (ys : List RelocationSection). numbers_of ys) (drop_all i xs end)

pub rel_stops : (file : List ℕ) (xs : List RelocationSection) (i : ℕ) (d : RelocationSection) → i < length xs → has_addends file (get_or xs i d).number ≡ false
    → rel_check file (numbers_of xs) ≡ rel_check file (numbers_of (drop i xs)) → Err (RelSection (get_or xs i d).number) ≡ rel_check file (numbers_of xs)
rel_stops file xs i d within lacks so_far = sym (
    so_far ∙ ap (rel_check file) (left-first xs i d within) ∙ rel_check-first file (get_or xs i d).number (numbers_of (drop (i + 1) xs))
    ∙ ap (λ (b : Bool). if b then rel_check file (numbers_of (drop (i + 1) xs)) else Err (RelSection (get_or xs i d).number)) lacks
    )

pub rel_goes_on : (file : List ℕ) (xs : List RelocationSection) (i : ℕ) (d : RelocationSection) → i < length xs → has_addends file (get_or xs i d).number ≡ true
    → rel_check file (numbers_of xs) ≡ rel_check file (numbers_of (drop i xs)) → rel_check file (numbers_of xs) ≡ rel_check file (numbers_of (drop (i + 1) xs))
rel_goes_on file xs i d within has so_far =
    so_far ∙ ap (rel_check file) (left-first xs i d within) ∙ rel_check-first file (get_or xs i d).number (numbers_of (drop (i + 1) xs))
    ∙ ap (λ (b : Bool). if b then rel_check file (numbers_of (drop (i + 1) xs)) else Err (RelSection (get_or xs i d).number)) has

pub rel_ends : (file : List ℕ) (xs : List RelocationSection) (i : ℕ) → length xs ≤ i → rel_check file (numbers_of xs) ≡ rel_check file (numbers_of (drop i xs)) → Ok tt ≡ rel_check file (numbers_of xs)
rel_ends file xs i end so_far = sym (so_far ∙ ap (rel_check file) (left-none xs i end) ∙ rel_check-none file)

-- the entries of the next section come first
pub sections-first : (file : List ℕ) (xs : List RelocationSection) (i : ℕ) (d : RelocationSection) (count : ℕ) → i < length xs → count ≡ entry_count file (get_or xs i d).number
    → relocations_in file (numbers_of (drop i xs)) ≡ entries_from (get_or xs i d).number 0 count ++ relocations_in file (numbers_of (drop (i + 1) xs))
sections-first file xs i d count within is =
    ap (relocations_in file) (left-first xs i d within)
    ∙ relocations_in-first file (get_or xs i d).number (numbers_of (drop (i + 1) xs))
    ∙ ap (λ (n : ℕ). entries_from (get_or xs i d).number 0 n ++ relocations_in file (numbers_of (drop (i + 1) xs))) (sym is)

entries_from-length : (table first count : ℕ) → length (entries_from table first count) ≡ count
entries_from-length table first zero = ap (λ (rs : List Relocation). length rs) (entries_from-none table first)
entries_from-length table first (suc count) =
    ap (λ (rs : List Relocation). length rs) (entries_from-suc table first count)
    ∙ ap (λ (n : ℕ). suc n) (entries_from-length table (first + 1) count)

pub relocations_in-length : (file : List ℕ) (i : ℕ) (sections : List ℕ) → length (relocations_in file (i ∷ sections)) ≡ entry_count file i + length (relocations_in file sections)
relocations_in-length file i sections =
    ap (λ (rs : List Relocation). length rs) (relocations_in-first file i sections)
    ∙ length-append (entries_from i 0 (entry_count file i)) (relocations_in file sections)
    ∙ ap (λ (n : ℕ). n + length (relocations_in file sections)) (entries_from-length i 0 (entry_count file i))

-- the next section's entries and those after it
pub sections-length : (file : List ℕ) (xs : List RelocationSection) (i : ℕ) (d : RelocationSection) (count : ℕ) → i < length xs → count ≡ entry_count file (get_or xs i d).number
    → length (relocations_in file (numbers_of (drop i xs))) ≡ count + length (relocations_in file (numbers_of (drop (i + 1) xs)))
sections-length file xs i d count within is =
    ap (λ (ns : List ℕ). length (relocations_in file ns)) (left-first xs i d within)
    ∙ relocations_in-length file (get_or xs i d).number (numbers_of (drop (i + 1) xs))
    ∙ ap (λ (n : ℕ). n + length (relocations_in file (numbers_of (drop (i + 1) xs)))) (sym is)

pub sections-none : (file : List ℕ) (xs : List RelocationSection) (i : ℕ) → length xs ≤ i → relocations_in file (numbers_of (drop i xs)) ≡ []
sections-none file xs i end = ap (relocations_in file) (left-none xs i end) ∙ relocations_in-none file

pub entries-first : (table k count : ℕ) (left : List Relocation) → k < count → entries_from table k (count - k) ++ left ≡ record { table = table; entry = k } ∷ (entries_from table (k + 1) (count - (k + 1)) ++ left)
entries-first table k count left within = ap (λ (rs : List Relocation). rs ++ left) (entries_from-first table k count within)

pub entries-none : (table k count : ℕ) (left : List Relocation) → count ≤ k → entries_from table k (count - k) ++ left ≡ left
entries-none table k count left end = ap (λ (rs : List Relocation). rs ++ left) (entries_from-end table k count end)

-- ---- an object
same_rest : (r : Result (List RelocatedField) RelocFault) → (r >>= λ others. Ok ([] ++ others)) ≡ r
same_rest (Ok others) = refl
same_rest (Err e) = refl

pub object_is : (p : Placing) (section : ℕ) (read : FixesSoFar) (numbers : List ℕ) → read.fixes.items ≡ [] → read.next ≡ 0 → numbers ≡ relocation_sections p.file section → rel_check p.file numbers ≡ Ok tt
    → going_on p section read (relocations_in p.file numbers) ≡ object_fixes p section
unfolding object_fixes
object_is p section read numbers none first is checked =
    ap (λ (fs : List RelocatedField). fixes_from p section read.next (relocations_in p.file numbers) >>= λ others. Ok (fs ++ others)) none
    ∙ same_rest (fixes_from p section read.next (relocations_in p.file numbers))
    ∙ ap (λ (n : ℕ). fixes_from p section n (relocations_in p.file numbers)) first
    ∙ sym (ap (λ (r : Result (Unit {0}) RelocFault). r >>= λ _. fixes_from p section 0 (relocations_in p.file numbers)) checked)
    ∙ ap (λ (ns : List ℕ). rel_check p.file ns >>= λ _. fixes_from p section 0 (relocations_in p.file ns)) is

pub object_refused : (p : Placing) (section : ℕ) (numbers : List ℕ) (e : RelocFault) → numbers ≡ relocation_sections p.file section → Err e ≡ rel_check p.file numbers → Fails e (object_fixes p section)
unfolding object_fixes
object_refused p section numbers e is refused = fails e _ (
    ap (λ (ns : List ℕ). rel_check p.file ns >>= λ _. fixes_from p section 0 (relocations_in p.file ns)) (sym is)
    ∙ ap (λ (r : Result (Unit {0}) RelocFault). r >>= λ _. fixes_from p section 0 (relocations_in p.file numbers)) (sym refused)
    )

pub object_read : {X : Type 0} (p : Placing) (section : ℕ) (r : Result X RelocFault) (new : FixesSoFar) (all given : Result (List RelocatedField) RelocFault) → all ≡ given → GoesOn p section r new all [] → HoldsAll r new given
object_read p section (Ok x) new all given is h = sym is ∙ h ∙ ends p section new.next new.fixes.items
object_read p section (Err e) new all given is h = subst (λ (x : Result (List RelocatedField) RelocFault). Fails e x) is h

pub fails_same : (e : RelocFault) (one other : Result (List RelocatedField) RelocFault) → one ≡ other → Fails e other → Fails e one
fails_same e one other same h = subst (λ (x : Result (List RelocatedField) RelocFault). Fails e x) (sym same) h
