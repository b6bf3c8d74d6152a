-- What a step leaves is a part of what was there.
use Rattle.std.proofs.Common.{◌≡◌, ℕ, ℤ, ◌+◌, List, Ok, Err, refl, sym, ap, subst, ◌∙◌, arith}
use Rattle.byteorder.specs.Endian.{little_number}
use Rattle.byteorder.specs.Numbers.{little_from-take}
use Rattle.sf_bytes.specs.Cursor.{Cursor, Read, number_at, part_at}
use Rattle.sf_bytes.specs.Leb.{uleb_at, sleb_at}
use Rattle.sf_bytes.specs.Text.{text_at}
use Rattle.eh_records.specs.Augmentation.{data_at}
use Rattle.eh_records.specs.Step.{at_field, PointerField, number_field, uleb_field, sleb_field, text_field, part_field, pointer_field}
use Rattle.eh_records.proofs.RawRecords.{through, ok_same, number_read}
use Rattle.eh_records.proofs.Parts.{IsPart, part-part, number_part, uleb_part, sleb_part, text_part, both_parts}

read_on : {X : Type 0} (place : ℕ) (r : Read X) (at : Cursor) (x : X × Cursor) → ((y : X) (c : Cursor) → r ≡ Ok (y, c) → IsPart c at) → at_field place r ≡ Ok x → IsPart x.1 at
read_on {X = X} place (Ok (y, c)) at x h e = subst (λ (z : X × Cursor). IsPart z.1 at) (ok_same (y, c) x e) (h y c refl)
read_on place (Err f) at x h e = absurd cc

pub number_on : (n : ℕ) (at : Cursor) (x : ℕ × Cursor) → number_field n at ≡ Ok x → IsPart x.1 at
unfolding number_field
number_on n at x e = read_on at.place (number_at n at) at x (number_part n at) e

pub uleb_on : (at : Cursor) (x : ℕ × Cursor) → uleb_field at ≡ Ok x → IsPart x.1 at
unfolding uleb_field
uleb_on at x e = read_on at.place (uleb_at at) at x (uleb_part at) e

pub sleb_on : (at : Cursor) (x : ℤ × Cursor) → sleb_field at ≡ Ok x → IsPart x.1 at
unfolding sleb_field
sleb_on at x e = read_on at.place (sleb_at at) at x (sleb_part at) e

pub text_on : (at : Cursor) (x : List ℕ × Cursor) → text_field at ≡ Ok x → IsPart x.1 at
unfolding text_field
text_on at x e = read_on at.place (text_at at) at x (text_part at) e

-- both the part and what is after it
part_of : (place n : ℕ) (r : Read Cursor) (at : Cursor) (x : Cursor × Cursor) → ((part c : Cursor) → r ≡ Ok (part, c) → IsPart part at × IsPart c at) → at_field place r ≡ Ok x → IsPart x.0 at × IsPart x.1 at
part_of place n (Ok (part, c)) at x h e = subst (λ (z : Cursor × Cursor). IsPart z.0 at × IsPart z.1 at) (ok_same (part, c) x e) (h part c refl)
part_of place n (Err f) at x h e = absurd cc

pub part_on : (n : ℕ) (at : Cursor) (x : Cursor × Cursor) → part_field n at ≡ Ok x → IsPart x.0 at × IsPart x.1 at
unfolding part_field
part_on n at x e = part_of at.place n (part_at n at) at x (both_parts n at) e

pub data_on : (at : Cursor) (x : Cursor × Cursor) → data_at at ≡ Ok x → IsPart x.0 at × IsPart x.1 at
unfolding data_at
data_on at x e =
    let t = through (uleb_field at) _ x e in
    let len = uleb_on at t.first t.read in
    let p = part_on t.first.0 t.first.1 x t.rest in
    (part-part x.0 t.first.1 at p.0 len, part-part x.1 t.first.1 at p.1 len)

-- a pointer field is at the front with its number, and ends where what is left begins
pub record Pointed (at : Cursor) (x : PointerField × Cursor) : Type 0 where
  pub place : x.0.place ≡ at.place
  pub next : x.0.place + x.0.width ≡ x.1.place
  pub raw : x.0.raw ≡ little_number x.0.width at.left
  pub on : IsPart x.1 at

pub pointer_on : (width : ℕ) (at : Cursor) (x : PointerField × Cursor) → pointer_field width at ≡ Ok x → Pointed at x
unfolding pointer_field
pointer_on width at x e =
    let t = through (number_field width at) _ x e in
    let number = number_read width at t.first t.read in
    let next : at.place + width ≡ t.first.1.place = ap (λ (c : Cursor). c.place) (sym number.after) in
    let raw : t.first.0 ≡ little_number width at.left = number.value ∙ little_from-take 0 width width at.left (omega arith) in
    subst (Pointed at) (ok_same _ x t.rest) (record { place = refl; next = next; raw = raw; on = number_on width at t.first t.read })
