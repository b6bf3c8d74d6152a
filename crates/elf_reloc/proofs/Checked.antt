-- What the fields of a list hold on which all relocations lie.
use Rattle.std.proofs.Common.{◌≡◌, ◌⊎◌, ℕ, zero, suc, ◌+◌, ◌<◌, ◌≤◌, ◌^◌, Bool, true, false, List, [], ◌∷◌, length, get_or, drop, Option, Some, None, Result, Ok, Err, refl, sym, ap, ◌∙◌, subst, arith, inl, inr, if◌then◌else◌, eq-eqb}
use Rattle.std.specs.List.{All, Contains}
use Rattle.std.proofs.lemmas.Bool.{cases_eq, cases_lt, eqb-true}
use Rattle.std.specs.Prelude.{IsTrue, ◌↔◌}
use Rattle.std.proofs.Math.Nat.{mod-lt}
use Rattle.std.specs.Option.{option_map}
use Rattle.std.proofs.lemmas.List.Elements.{All-nil, All-cons, All-head, All-tail, All-contains}
use Rattle.byteorder.specs.Endian.{little_number}
use Rattle.elf_place.specs.Views.{Placing}
use Rattle.elf_read.specs.Sections.{section_bytes}
use Rattle.sf_bytes.specs.Field.{is_field_width}
use Rattle.sf_bytes.specs.declared.field.Field.{Field}
use Rattle.elf_reloc.specs.declared.fault.RelocFault.{RelocFault}
use Rattle.elf_reloc.specs.declared.fault.RelocFault.TheVariants as faults
use Rattle.elf_reloc.specs.declared.fix.RelocatedField.{RelocatedField}
use Rattle.elf_reloc.specs.declared.table.Range.{Range}
use Rattle.elf_reloc.specs.declared.table.Range.TheVariants.{Any, Unsigned, Signed, Either}
use Rattle.elf_reloc.specs.Fields.{fix_bits, bits_by, bits_in, dropped_by, is_dropped_field}
use Rattle.sf_bytes.specs.Rising.{field_place, AreApart}
use Rattle.elf_reloc.specs.Order.{overlap_check, first_at, place_of, has_width, lies_on, places_check}
use Rattle.elf_reloc.specs.Patched.{patched, AreInside, IsFree, AreRaw, IsUnresolved, IsDropped, FieldHolds}
use Rattle.elf_reloc.specs.Reading.{section_fixes}
use Rattle.elf_reloc.specs.Table.{width_of, low_bits}
use Rattle.elf_reloc.specs.Views.{Reads}
use Rattle.elf_reloc.proofs.First.{nil, same, other}
use Rattle.elf_reloc.proofs.Inside.{IsSmall, reads_inside, reads_small, reads_hidden}
use Rattle.elf_reloc.proofs.Patching.{apart_here, holds, holds_still}
use Rattle.elf_reloc.proofs.Placing as placing

-- the first that has a number stands somewhere, and has it
found_at : {X : Type 0} → (number : X → ℕ) (n : ℕ) (xs : List X) (x d : X) → first_at number n xs ≡ Some x → (j : ℕ) × (j < length xs) × (get_or xs j d ≡ x) × (number x ≡ n)
found_at number n [] x d h = absurd (cc (sym (nil number n) ∙ h))
found_at {X = X} number n (y ∷ ys) x d h = elim (cases_eq (number y) n) [
  | inl here ↦
      let some : Some y ≡ Some x = sym (same number n y ys here) ∙ h in
      let e : y ≡ x = cc some in
      (0, omega arith, e, subst (λ (z : X). number z ≡ n) e here)
  | inr differ ↦
      let r = found_at number n ys x d (sym (other number n y ys differ) ∙ h) in
      let within : r.0 < length ys = r.1 in
      (suc r.0, omega (arith, within), r.2, r.3)
]

-- where none was found, none has the number
none_has : {X : Type 0} → (number : X → ℕ) (n : ℕ) (xs : List X) → first_at number n xs ≡ None → All (λ x. number x ≡ n → ⊥) xs
none_has {X = X} number n [] h = All-nil (λ (x : X). number x ≡ n → ⊥)
none_has {X = X} number n (y ∷ ys) h = elim (cases_eq (number y) n) [
  | inl here ↦ absurd (cc (sym (same number n y ys here) ∙ h))
  | inr differ ↦ All-cons (λ (x : X). number x ≡ n → ⊥) y ys differ (none_has number n ys (sym (other number n y ys differ) ∙ h))
]

width_positive : (r : Range) → 0 < width_of r
width_positive Any = omega arith
width_positive Unsigned = omega arith
width_positive Signed = omega arith
width_positive Either = omega arith

-- fields that don't overlap begin at the end of the one before or after
begin_behind : (end : ℕ) (fs : List RelocatedField) → overlap_check end fs ≡ Ok tt → All (λ f. end ≤ f.place) fs
begin_behind end [] h = All-nil (λ (f : RelocatedField). end ≤ f.place)
begin_behind end (f ∷ fs) h =
    let p = apart_here end f fs h in
    let low : end ≤ f.place = p.0 in
    All-cons (λ (x : RelocatedField). end ≤ x.place) f fs p.0 (λ k d within.
    let up : f.place + width_of f.range ≤ (get_or fs k d).place = begin_behind (f.place + width_of f.range) fs p.1 k d within in
    omega (arith, low, up))

-- so each is the first at its place
each_first : (end : ℕ) (fs : List RelocatedField) → overlap_check end fs ≡ Ok tt → All (λ f. first_at place_of f.place fs ≡ Some f) fs
each_first end [] h = All-nil (λ (f : RelocatedField). first_at place_of f.place [] ≡ Some f)
each_first end (f ∷ fs) h =
    let p = apart_here end f fs h in
    All-cons (λ (x : RelocatedField). first_at place_of x.place (f ∷ fs) ≡ Some x) f fs (same place_of f.place f fs refl) (λ k d within.
    let up : f.place + width_of f.range ≤ (get_or fs k d).place = begin_behind (f.place + width_of f.range) fs p.1 k d within in
    let wide : 0 < width_of f.range = width_positive f.range in
    let differ : f.place ≡ (get_or fs k d).place → ⊥ = λ e. omega (arith, e, up, wide) in
    other place_of (get_or fs k d).place f fs differ ∙ each_first (f.place + width_of f.range) fs p.1 k d within)

pub passed : (b : Bool) (r : Result (Unit {0}) RelocFault) (e : RelocFault) → (if b then r else Err e) ≡ Ok tt → (b ≡ true) × (r ≡ Ok tt)
passed true r e h = (refl, h)
passed false r e h = absurd (cc h)

-- each that is written lies on one of the fields
each_lies : (fields : List Field) (fs : List RelocatedField) → places_check fields fs ≡ Ok tt → All (λ f. lies_on fields f ≡ true) fs
each_lies fields [] h = All-nil (λ (f : RelocatedField). lies_on fields f ≡ true)
each_lies fields (f ∷ fs) h =
    let p = passed (lies_on fields f) (places_check fields fs) (faults.Place f.index) (sym (placing.cons fields f fs) ∙ h) in
    All-cons (λ (x : RelocatedField). lies_on fields x ≡ true) f fs p.0 (each_lies fields fs p.1)

of_width : (o : Option Field) (f : RelocatedField) → has_width o f ≡ true → (h : Field) × (o ≡ Some h) × (h.width ≡ width_of f.range)
of_width None f t = absurd (cc t)
of_width (Some h) f t = (h, refl, eqb-true h.width (width_of f.range) t)

-- where the field stands on which one lies
on_field : (fields : List Field) (f : RelocatedField) (d : Field) → lies_on fields f ≡ true → (j : ℕ) × (j < length fields) × ((get_or fields j d).place ≡ f.place) × ((get_or fields j d).width ≡ width_of f.range)
on_field fields f d t =
    let h = of_width (first_at field_place f.place fields) f t in
    let r = found_at field_place f.place fields h.0 d h.1 in
    (r.0, r.1, ap (λ (g : Field). g.place) r.2 ∙ r.3, ap (λ (g : Field). g.width) r.2 ∙ h.2)

-- a field that none lies on is free where all lie on fields that are apart
free_of : (fields : List Field) (i : ℕ) (d : Field) (fs : List RelocatedField) → AreApart fields → i < length fields → All (λ f. lies_on fields f ≡ true) fs → All (λ f. f.place ≡ (get_or fields i d).place → ⊥) fs
    → IsFree (get_or fields i d).place (get_or fields i d).width fs
free_of fields i d [] apart within lie differ = tt
free_of fields i d (f ∷ fs) apart within lie differ =
    let at = on_field fields f d (All-head (λ (x : RelocatedField). lies_on fields x ≡ true) f fs lie) in
    let inside : at.0 < length fields = at.1 in
    let place : (get_or fields at.0 d).place ≡ f.place = at.2 in
    let width : (get_or fields at.0 d).width ≡ width_of f.range = at.3 in
    let here : f.place ≡ (get_or fields i d).place → ⊥ = All-head (λ (x : RelocatedField). x.place ≡ (get_or fields i d).place → ⊥) f fs differ in
    let side : ((get_or fields i d).place + (get_or fields i d).width ≤ f.place) ⊎ (f.place + width_of f.range ≤ (get_or fields i d).place) = elim (cases_lt i at.0) [
      | inl before ↦
          let gap : (get_or fields i d).place + (get_or fields i d).width ≤ (get_or fields at.0 d).place = apart i at.0 d before inside in
          inl (omega (arith, gap, place))
      | inr upto ↦ elim (cases_eq at.0 i) [
        | inl same ↦ absurd (here (sym place ∙ ap (λ (k : ℕ). (get_or fields k d).place) same))
        | inr not_same ↦
            let behind : at.0 < i = omega (arith, upto, not_same) in
            let gap : (get_or fields at.0 d).place + (get_or fields at.0 d).width ≤ (get_or fields i d).place = apart at.0 i d behind within in
            inr (omega (arith, gap, place, width))
      ]
    ] in
    (side, free_of fields i d fs apart within (All-tail (λ (x : RelocatedField). lies_on fields x ≡ true) f fs lie) (All-tail (λ (x : RelocatedField). x.place ≡ (get_or fields i d).place → ⊥) f fs differ))

-- the field at which one stands has its width
width_there : (fields : List Field) (i : ℕ) (d : Field) (f : RelocatedField) → AreApart fields → i < length fields → 0 < (get_or fields i d).width → lies_on fields f ≡ true → f.place ≡ (get_or fields i d).place → width_of f.range ≡ (get_or fields i d).width
width_there fields i d f apart within some t e =
    let at = on_field fields f d t in
    let inside : at.0 < length fields = at.1 in
    let place : (get_or fields at.0 d).place ≡ f.place = at.2 in
    let width : (get_or fields at.0 d).width ≡ width_of f.range = at.3 in
    let wide : 0 < width_of f.range = width_positive f.range in
    elim (cases_lt i at.0) [
      | inl before ↦
          let gap : (get_or fields i d).place + (get_or fields i d).width ≤ (get_or fields at.0 d).place = apart i at.0 d before inside in
          absurd (omega (arith, gap, place, e, some))
      | inr upto ↦ elim (cases_eq at.0 i) [
        | inl same ↦ sym width ∙ ap (λ (k : ℕ). (get_or fields k d).width) same
        | inr not_same ↦
            let behind : at.0 < i = omega (arith, upto, not_same) in
            let gap : (get_or fields at.0 d).place + (get_or fields at.0 d).width ≤ (get_or fields i d).place = apart at.0 i d behind within in
            absurd (omega (arith, gap, place, width, e, wide))
      ]
    ]

-- the low bits of a value below 2^64 fit the field
bits_in_width : (r : Range) (v : ℕ) → v < 2 ^ 64 → low_bits r v < 256 ^ width_of r
unfolding low_bits
bits_in_width Any v h = h
bits_in_width Unsigned v h = mod-lt v (omega arith)
bits_in_width Signed v h = mod-lt v (omega arith)
bits_in_width Either v h = mod-lt v (omega arith)

pub bits_fit : (f : RelocatedField) (v : ℕ) → IsSmall f → f.value ≡ Some v → low_bits f.range v < 256 ^ width_of f.range
bits_fit f v small known = bits_in_width f.range v (small v known)

-- the value of the one that is found is what the field holds
holds_where : (fixes : List RelocatedField) (section : List ℕ) (g : Field) (f : RelocatedField) (o : Option ℕ) → overlap_check 0 fixes ≡ Ok tt → AreInside (length section) fixes → IsSmall f → Contains fixes f → f.place ≡ g.place → width_of f.range ≡ g.width
    → first_at place_of g.place fixes ≡ Some f → f.value ≡ o → FieldHolds fixes section g (option_map (low_bits f.range) o)
holds_where fixes section g f None apart inside small among place width found unknown = record { fix = f; among = among; at = place; unknown = unknown }
holds_where fixes section g f (Some v) apart inside small among place width found known =
    let bits : fix_bits f ≡ Some (low_bits f.range v) = ap (λ (o : Option ℕ). option_map (low_bits f.range) o) known in (
      λ u.
          let first : first_at place_of u.fix.place fixes ≡ Some u.fix = All-contains (λ (x : RelocatedField). first_at place_of x.place fixes ≡ Some x) fixes u.fix (each_first 0 fixes apart) u.among in
          let both : Some f ≡ Some u.fix = sym found ∙ ap (λ (k : ℕ). first_at place_of k fixes) (sym u.at) ∙ first in
          let e : f ≡ u.fix = cc both in
          let clash : Some v ≡ None = sym known ∙ ap (λ (x : RelocatedField). x.value) e ∙ u.unknown in
          absurd (cc clash),
      subst (λ (w : ℕ). little_number w (drop g.place (patched fixes section)) ≡ low_bits f.range v) width
          (holds fixes section 0 g.place f (low_bits f.range v) apart inside found bits (bits_fit f v small known)),
    )

pub positive_width : (w : ℕ) → IsTrue (is_field_width w) → 0 < w
positive_width zero t = absurd (cc t)
positive_width (suc w) t = omega arith

-- what a field holds, by what was found at its place
holds_by : (fixes : List RelocatedField) (section : List ℕ) (fields : List Field) (i : ℕ) (d : Field) (o : Option RelocatedField) → overlap_check 0 fixes ≡ Ok tt → AreInside (length section) fixes → All IsSmall fixes
    → AreApart fields → AreRaw section fields → All (λ f. lies_on fields f ≡ true) fixes → i < length fields → first_at place_of (get_or fields i d).place fixes ≡ o
    → FieldHolds fixes section (get_or fields i d) (bits_by o (get_or fields i d).width (get_or fields i d).raw)
holds_by fixes section fields i d None apart inside small clear raw lie within found =
    let g = get_or fields i d in
    let differ = none_has place_of g.place fixes found in (
      λ u. All-contains (λ (f : RelocatedField). f.place ≡ g.place → ⊥) fixes u.fix differ u.among u.at,
      holds_still fixes section g.place g.width inside (free_of fields i d fixes clear within lie differ) ∙ sym (raw i d within),
    )
holds_by fixes section fields i d (Some f) apart inside small clear raw lie within found =
    let g = get_or fields i d in
    let at = found_at place_of g.place fixes f f found in
    let among : Contains fixes f = (at.0, at.1, at.2) in
    let t : lies_on fields f ≡ true = All-contains (λ (x : RelocatedField). lies_on fields x ≡ true) fixes f lie among in
    let width : width_of f.range ≡ g.width = width_there fields i d f clear within (positive_width g.width g.wide) t at.3 in
    let bits : bits_by (Some f) g.width g.raw ≡ fix_bits f = ap (λ (b : Bool). if b then fix_bits f else Some g.raw) (eq-eqb (width_of f.range) g.width width) in
    let fits : IsSmall f = All-contains IsSmall fixes f small among in
    subst (FieldHolds fixes section g) (sym bits)
    (holds_where fixes section g f f.value apart inside fits among at.3 width found refl)

-- the fields of a list on which all lie
pub hold : (fixes : List RelocatedField) (section : List ℕ) (fields : List Field) → overlap_check 0 fixes ≡ Ok tt → AreInside (length section) fixes → All IsSmall fixes
    → AreApart fields → AreRaw section fields → places_check fields fixes ≡ Ok tt → All (λ g. FieldHolds fixes section g (bits_in fixes g.place g.width g.raw)) fields
hold fixes section fields apart inside small clear raw checked = λ i d within.
    holds_by fixes section fields i d (first_at place_of (get_or fields i d).place fixes) apart inside small clear raw (each_lies fields fixes checked) within refl

-- the same of a section's relocations
pub reads_hold : (p : Placing) (section : ℕ) (fixes : List RelocatedField) (fields : List Field) → Reads (section_fixes p section) fixes → AreApart fields → AreRaw (section_bytes p.file section) fields → places_check fields fixes ≡ Ok tt
    → All (λ g. FieldHolds fixes (section_bytes p.file section) g (bits_in fixes g.place g.width g.raw)) fields
reads_hold p section fixes fields reads clear raw checked =
    hold fixes (section_bytes p.file section) fields reads.apart
    (reads_inside p section reads.fixes fixes reads.read reads.order.moved)
    (reads_small p section reads.fixes fixes reads.read reads.order.moved)
    clear raw checked

-- what one of them holds
pub one_holds : (p : Placing) (section : ℕ) (fixes : List RelocatedField) (fields : List Field) (g : Field) (bits : Option ℕ) → bits ≡ bits_in fixes g.place g.width g.raw
    → Reads (section_fixes p section) fixes → AreApart fields → AreRaw (section_bytes p.file section) fields → places_check fields fixes ≡ Ok tt → Contains fields g → FieldHolds fixes (section_bytes p.file section) g bits
one_holds p section fixes fields g bits is reads clear raw checked among =
    subst (FieldHolds fixes (section_bytes p.file section) g) (sym is)
    (All-contains (λ (x : Field). FieldHolds fixes (section_bytes p.file section) x (bits_in fixes x.place x.width x.raw)) fields g (reads_hold p section fixes fields reads clear raw checked) among)

known_fits : (f : RelocatedField) (o : Option ℕ) (bits : ℕ) → IsSmall f → f.value ≡ o → option_map (low_bits f.range) o ≡ Some bits → bits < 256 ^ width_of f.range
known_fits f None bits small is h = absurd (cc h)
known_fits f (Some v) bits small is h =
    let e : low_bits f.range v ≡ bits = cc h in
    subst (λ (k : ℕ). k < 256 ^ width_of f.range) e (bits_fit f v small is)

pub reads_written : (p : Placing) (section : ℕ) (fixes : List RelocatedField) (place : ℕ) (f : RelocatedField) (bits : ℕ) → Reads (section_fixes p section) fixes → first_at place_of place fixes ≡ Some f → fix_bits f ≡ Some bits
    → little_number (width_of f.range) (drop place (patched fixes (section_bytes p.file section))) ≡ bits
reads_written p section fixes place f bits reads found known =
    let at = found_at place_of place fixes f f found in
    let small = reads_small p section reads.fixes fixes reads.read reads.order.moved in
    holds fixes (section_bytes p.file section) 0 place f bits reads.apart
    (reads_inside p section reads.fixes fixes reads.read reads.order.moved)
    found known
    (known_fits f f.value bits (All-contains IsSmall fixes f small (at.0, at.1, at.2)) refl known)

pub reads_free : (p : Placing) (section : ℕ) (fixes : List RelocatedField) (place width : ℕ) → Reads (section_fixes p section) fixes → IsFree place width fixes
    → little_number width (drop place (patched fixes (section_bytes p.file section))) ≡ little_number width (drop place (section_bytes p.file section))
reads_free p section fixes place width reads free =
    holds_still fixes (section_bytes p.file section) place width (reads_inside p section reads.fixes fixes reads.read reads.order.moved) free

-- whether a field is dropped, by what was found at its place
drops_by : (fixes : List RelocatedField) (fields : List Field) (i : ℕ) (d : Field) (o : Option RelocatedField) → overlap_check 0 fixes ≡ Ok tt → AreApart fields → All (λ f. lies_on fields f ≡ true) fixes → i < length fields → first_at place_of (get_or fields i d).place fixes ≡ o
    → (dropped_by o (get_or fields i d).width ≡ true) ↔ IsDropped fixes (get_or fields i d)
drops_by fixes fields i d None apart clear lie within found =
    let g = get_or fields i d in
    let differ = none_has place_of g.place fixes found in
    (λ h. absurd (cc h), λ u. absurd (All-contains (λ (f : RelocatedField). f.place ≡ g.place → ⊥) fixes u.fix differ u.among u.at))
drops_by fixes fields i d (Some f) apart clear lie within found =
    let g = get_or fields i d in
    let at = found_at place_of g.place fixes f f found in
    let among : Contains fixes f = (at.0, at.1, at.2) in
    let t : lies_on fields f ≡ true = All-contains (λ (x : RelocatedField). lies_on fields x ≡ true) fixes f lie among in
    let width : width_of f.range ≡ g.width = width_there fields i d f clear within (positive_width g.width g.wide) t at.3 in
    let is : dropped_by (Some f) g.width ≡ f.dropped = ap (λ (b : Bool). if b then f.dropped else false) (eq-eqb (width_of f.range) g.width width) in (
      λ h. record { fix = f; among = among; at = at.3; gone = sym is ∙ h },
      λ u.
          let first : first_at place_of u.fix.place fixes ≡ Some u.fix = All-contains (λ (x : RelocatedField). first_at place_of x.place fixes ≡ Some x) fixes u.fix (each_first 0 fixes apart) u.among in
          let both : Some f ≡ Some u.fix = sym found ∙ ap (λ (k : ℕ). first_at place_of k fixes) (sym u.at) ∙ first in
          let e : f ≡ u.fix = cc both in
          is ∙ ap (λ (x : RelocatedField). x.dropped) e ∙ u.gone,
    )

pub reads_drop : (p : Placing) (section : ℕ) (fixes : List RelocatedField) (fields : List Field) → Reads (section_fixes p section) fixes → AreApart fields → places_check fields fixes ≡ Ok tt
    → All (λ g. (is_dropped_field fixes g.place g.width ≡ true) ↔ IsDropped fixes g) fields
reads_drop p section fixes fields reads clear checked = λ i d within.
    drops_by fixes fields i d (first_at place_of (get_or fields i d).place fixes) reads.apart clear (each_lies fields fixes checked) within refl

pub reads_unknown : (p : Placing) (section : ℕ) (fixes : List RelocatedField) (g : Field) → Reads (section_fixes p section) fixes → IsDropped fixes g → IsUnresolved fixes g
reads_unknown p section fixes g reads u =
    let hidden = reads_hidden p section reads.fixes fixes reads.read reads.order.moved in
    record { fix = u.fix; among = u.among; at = u.at; unknown = All-contains (λ (f : RelocatedField). f.dropped ≡ true → f.value ≡ None) fixes u.fix hidden u.among u.gone }
