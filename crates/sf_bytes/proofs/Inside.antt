-- What is read from the front of a cursor, and what is left after it, lies inside what was there.
use Rattle.std.proofs.Common.{◌≡◌, ℕ, ℤ, ◌+◌, ◌≤◌, List, length, Ok, ap, ◌∙◌, arith}
use Rattle.std.proofs.lemmas.List.{length-append}
use Rattle.sf_bytes.specs.Cursor.{Cursor, number_at, part_at}
use Rattle.sf_bytes.specs.Leb.{uleb_at, sleb_at}
use Rattle.sf_bytes.specs.Text.{text_at}
use Rattle.sf_bytes.specs.Standing.{Passes}
use Rattle.sf_bytes.proofs.Fields.{number_takes, part_takes}
use Rattle.sf_bytes.proofs.Lebs.{uleb_takes, sleb_takes}
use Rattle.sf_bytes.proofs.Texts.{text_takes}

-- the place after the last byte
abbrev pub end_of : Cursor → ℕ
end_of at = at.place + length at.left

-- one cursor's bytes lie among another's
pub record Inside (inner outer : Cursor) : Type 0 where
  pub from : outer.place ≤ inner.place
  pub to : end_of inner ≤ end_of outer

pub inside-same : (at : Cursor) → Inside at at
inside-same at = record { from = omega arith; to = omega arith }

pub inside-inside : (a b c : Cursor) → Inside a b → Inside b c → Inside a c
inside-inside a b c h k = record { from = omega (arith, h.from, k.from); to = omega (arith, h.to, k.to) }

pub passes-inside : (run : List ℕ) (from to : Cursor) → Passes run from to → Inside to from
passes-inside run from to p =
    let len : length from.left ≡ length run + length to.left = ap length p.bytes ∙ length-append run to.left in
    record { from = omega (arith, p.moved); to = omega (arith, p.moved, len) }

pub number_inside : (n : ℕ) (at : Cursor) (x : ℕ) (after : Cursor) → number_at n at ≡ Ok (x, after) → Inside after at
number_inside n at x after e = let s = number_takes n at x after e in passes-inside s.run at after s.passes

pub uleb_inside : (at : Cursor) (x : ℕ) (after : Cursor) → uleb_at at ≡ Ok (x, after) → Inside after at
uleb_inside at x after e = let s = uleb_takes at x after e in passes-inside s.run at after s.passes

pub sleb_inside : (at : Cursor) (x : ℤ) (after : Cursor) → sleb_at at ≡ Ok (x, after) → Inside after at
sleb_inside at x after e = let s = sleb_takes at x after e in passes-inside s.run at after s.passes

pub text_inside : (at : Cursor) (x : List ℕ) (after : Cursor) → text_at at ≡ Ok (x, after) → Inside after at
text_inside at x after e = let s = text_takes at x after e in passes-inside s.run at after s.passes

-- both the part and what is after it
pub part_inside : (n : ℕ) (at part after : Cursor) → part_at n at ≡ Ok (part, after) → Inside part at × Inside after at
part_inside n at part after e =
    let s = part_takes n at part after e in
    let behind = passes-inside s.0.run at after s.0.passes in
    let part_len : length part.left ≡ length s.0.run = ap length s.0.kind.value in
    let len : length at.left ≡ length s.0.run + length after.left = ap length s.0.passes.bytes ∙ length-append s.0.run after.left in
    (record { from = omega (arith, s.1); to = omega (arith, s.1, part_len, len) }, behind)
