-- A cursor whose bytes are some of another's, each at its place.
use Rattle.std.proofs.Common.{◌≡◌, ℕ, ℤ, zero, suc, ◌+◌, ◌-◌, ◌*◌, ◌<◌, ◌≤◌, List, length, get_or, drop, Ok, refl, sym, ap, ◌∙◌, arith}
use Rattle.std.proofs.lemmas.List.{get_or-append_right, get_or_append_left, get_or-drop, length-append}
use Rattle.byteorder.specs.Endian.{little_from, little_number}
use Rattle.sf_bytes.specs.Cursor.{Cursor, number_at, part_at}
use Rattle.sf_bytes.specs.Leb.{uleb_at, sleb_at}
use Rattle.sf_bytes.specs.Text.{text_at}
use Rattle.sf_bytes.specs.Standing.{Passes}
use Rattle.sf_bytes.proofs.Fields.{number_takes, part_takes}
use Rattle.sf_bytes.proofs.Inside.{Inside, end_of, inside-same, inside-inside, passes-inside}
use Rattle.sf_bytes.proofs.Lebs.{uleb_takes, sleb_takes}
use Rattle.sf_bytes.proofs.Texts.{text_takes}
use Rattle.eh_pointer.specs.Skipping.{pointer_passed}
use Rattle.eh_pointer.proofs.PassedPointer.{pointer_behind}

-- the byte at a place
abbrev byte_at : Cursor → ℕ → ℕ
byte_at at place = get_or at.left (place - at.place) 0

-- one cursor's bytes are some of another's
pub record IsPart (inner outer : Cursor) : Type 0 where
  pub inside : Inside inner outer
  pub bytes : (place : ℕ) → inner.place ≤ place → place < end_of inner → byte_at inner place ≡ byte_at outer place

pub part-same : (at : Cursor) → IsPart at at
part-same at = record { inside = inside-same at; bytes = λ place low high. refl }

pub part-part : (a b c : Cursor) → IsPart a b → IsPart b c → IsPart a c
part-part a b c h k = record {
  inside = inside-inside a b c h.inside k.inside;
  bytes = λ place low high.
      h.bytes place low high ∙ k.bytes place (omega (arith, h.inside.from, low)) (omega (arith, h.inside.to, high));
}

-- what is left after a run
pub rest-part : (run : List ℕ) (from to : Cursor) → Passes run from to → IsPart to from
rest-part run from to p = record {
  inside = passes-inside run from to p;
  bytes = λ place low high.
      let moved : to.place ≡ from.place + length run = p.moved in
      let behind : length run ≤ place - from.place = omega (arith, moved, low) in
      let same : place - from.place - length run ≡ place - to.place = omega (arith, moved, low) in
      sym (ap (λ (xs : List ℕ). get_or xs (place - from.place) 0) p.bytes
      ∙ get_or-append_right run to.left (length run) (place - from.place) 0 refl behind
      ∙ ap (λ (i : ℕ). get_or to.left i 0) same);
}

-- the run itself
pub run-part : (run : List ℕ) (part from to : Cursor) → Passes run from to → part.place ≡ from.place → part.left ≡ run → IsPart part from
run-part run part from to p same left =
    let len : length from.left ≡ length run + length to.left = ap length p.bytes ∙ length-append run to.left in
    let part_len : length part.left ≡ length run = ap length left in
    record {
      inside = record { from = omega (arith, same); to = omega (arith, same, len, part_len) };
      bytes = λ place low high.
          let within : place - part.place < length run = omega (arith, low, high, part_len) in
          ap (λ (xs : List ℕ). get_or xs (place - part.place) 0) left
          ∙ sym (get_or_append_left run to.left 0 (place - part.place) within)
          ∙ ap (λ (xs : List ℕ). get_or xs (place - part.place) 0) (sym p.bytes)
          ∙ ap (λ (n : ℕ). get_or from.left (place - n) 0) same;
    }

-- ---- what a read leaves
pub number_part : (n : ℕ) (at : Cursor) (x : ℕ) (after : Cursor) → number_at n at ≡ Ok (x, after) → IsPart after at
number_part n at x after e = let s = number_takes n at x after e in rest-part s.run at after s.passes

pub uleb_part : (at : Cursor) (x : ℕ) (after : Cursor) → uleb_at at ≡ Ok (x, after) → IsPart after at
uleb_part at x after e = let s = uleb_takes at x after e in rest-part s.run at after s.passes

pub sleb_part : (at : Cursor) (x : ℤ) (after : Cursor) → sleb_at at ≡ Ok (x, after) → IsPart after at
sleb_part at x after e = let s = sleb_takes at x after e in rest-part s.run at after s.passes

pub text_part : (at : Cursor) (x : List ℕ) (after : Cursor) → text_at at ≡ Ok (x, after) → IsPart after at
text_part at x after e = let s = text_takes at x after e in rest-part s.run at after s.passes

-- both what is taken and what is after it
pub both_parts : (n : ℕ) (at taken after : Cursor) → part_at n at ≡ Ok (taken, after) → IsPart taken at × IsPart after at
both_parts n at taken after e =
    let s = part_takes n at taken after e in
    (run-part s.0.run taken at after s.0.passes s.1 s.0.kind.value, rest-part s.0.run at after s.0.passes)

pub pointer_part : (encoding : ℕ) (at after : Cursor) → pointer_passed encoding at ≡ Ok after → IsPart after at
pointer_part encoding at after e = let r = pointer_behind encoding at after e in rest-part r.0 at after r.1

-- ---- numbers
-- numbers of the same bytes are the same
same_number : (n i : ℕ) (xs ys : List ℕ) → ((k : ℕ) → i ≤ k → k < i + n → get_or xs k 0 ≡ get_or ys k 0) → little_from i n xs ≡ little_from i n ys
same_number zero i xs ys h = refl
same_number (suc n) i xs ys h =
    let here : get_or xs i 0 ≡ get_or ys i 0 = h i (omega arith) (omega arith) in
    let rest : little_from (suc i) n xs ≡ little_from (suc i) n ys = same_number n (suc i) xs ys (λ k low high. h k (omega arith) (omega arith)) in
    ap (λ (a : ℕ). a + 256 * little_from (suc i) n xs) here ∙ ap (λ (a : ℕ). get_or ys i 0 + 256 * a) rest

-- the number at a place
abbrev pub number_there : Cursor → (place width : ℕ) → ℕ
number_there at place width = little_number width (drop (place - at.place) at.left)

dropped_byte : (at : Cursor) (place k : ℕ) → at.place ≤ place → get_or (drop (place - at.place) at.left) k 0 ≡ byte_at at (place + k)
dropped_byte at place k low =
    let same : place - at.place + k ≡ place + k - at.place = omega (arith, low) in
    get_or-drop (place - at.place) at.left k 0 ∙ ap (λ (i : ℕ). get_or at.left i 0) same

-- a part has the number as well
pub number_wider : (inner outer : Cursor) (place width : ℕ) → IsPart inner outer → inner.place ≤ place → place + width ≤ end_of inner
    → number_there inner place width ≡ number_there outer place width
number_wider inner outer place width p low high =
    same_number width 0 (drop (place - inner.place) inner.left) (drop (place - outer.place) outer.left)
    (λ k from to.
    dropped_byte inner place k low
    ∙ p.bytes (place + k) (omega (arith, low)) (omega (arith, high, to))
    ∙ sym (dropped_byte outer place k (omega (arith, low, p.inside.from))))
