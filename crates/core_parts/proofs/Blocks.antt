-- Parts that were read, and the first with bytes from a place on.
use Rattle.std.specs.Prelude.{nat_le, nat_lt}
use Rattle.std.specs.List.{find}
use Rattle.std.specs.Option.{option_map}
use Rattle.std.proofs.Common.{◌≡◌, ℕ, ◌+◌, ◌-◌, ◌^◌, ◌<◌, ◌≤◌, Bool, true, false, cond, List, [], ◌∷◌, length, take, drop, map, Option, Some, None, refl, sym, ap, ◌∙◌, arith}
use Rattle.std.proofs.lemmas.Bool.{leb-true, le-leb}
use Rattle.std.proofs.lemmas.List.{length-drop}
use Rattle.byteorder.specs.Endian.{little_number}
use Rattle.byteorder.specs.Numbers.{little_from-take}
use Rattle.sf_model.specs.Memory.{Region, eight_bytes, holds_eight, read_eight}
use Rattle.elf_read.specs.Number.{field_at}
use Rattle.sf_lookup.specs.declared.span.Span.{Span}
use Rattle.sf_lookup.specs.Span.{answer_of, covers}
use Rattle.core_notes.specs.MemoryBytes.{bytes_at, region_bytes}
use Rattle.core_notes.proofs.Holdings.{held}
use Rattle.core_parts.specs.declared.memory.Block.{Block}
use Rattle.core_parts.specs.declared.segment.SegmentHead.{SegmentHead}
use Rattle.core_parts.specs.Heads.{heads_rise, held_span, if_holds}
use Rattle.core_parts.specs.Read.{block_cursor, eight_span, first_span, has_bytes, place_of, regions_by}
use Rattle.core_parts.proofs.HeldSpans.{below_end, not_covered}
use Rattle.core_parts.proofs.PartReads.{both, long_enough, read_found, too_high, two_true}
use Rattle.core_parts.proofs.SegmentReads.{none_found, none_placed, part_found}

-- ---- eight bytes
pub first_eight : (blocks : List Block) (place : ℕ) → option_map block_cursor (answer_of (map eight_span blocks) place) ≡ find (has_bytes place 8) (map block_cursor blocks)
first_eight [] place = refl
first_eight (b ∷ bs) place =
    ap (λ (t : Bool). option_map block_cursor (option_map (λ (s : Span Block). s.leads_to) (cond t (Some (eight_span b)) (find (covers place) (map eight_span bs)))))
    (held b.place (length b.bytes.now) place)
    ∙ by_test (has_bytes place 8 (block_cursor b)) (first_eight bs place)
  where
    by_test : (t : Bool) → option_map block_cursor (answer_of (map eight_span bs) place) ≡ find (has_bytes place 8) (map block_cursor bs)
        → option_map block_cursor (option_map (λ (s : Span Block). s.leads_to) (cond t (Some (eight_span b)) (find (covers place) (map eight_span bs))))
        ≡ cond t (Some (block_cursor b)) (find (has_bytes place 8) (map block_cursor bs))
    by_test true later = refl
    by_test false later = later

pub found_passes : {X : Type 0} (p : X → Bool) (xs : List X) (x : X) → Some x ≡ find p xs → p x ≡ true
found_passes p [] x e = absurd (let no : Some x ≡ None = e in cc)
found_passes p (y ∷ ys) x e = by_test (p y) refl e (found_passes p ys x)
  where
    by_test : (b : Bool) → p y ≡ b → Some x ≡ cond b (Some y) (find p ys) → (Some x ≡ find p ys → p x ≡ true) → p x ≡ true
    by_test true here f later = let same : x ≡ y = cc in ap p same ∙ here
    by_test false here f later = later f

-- ---- one byte
-- the place is one of the block's
pub record IsIn (place : ℕ) (b : Block) : Type 0 where
  pub low : b.place ≤ place
  pub high : place < b.place + length b.bytes.now

is_in : (place : ℕ) (b : Block) → covers place (first_span b) ≡ true → IsIn place b
is_in place b e = record {
  low = leb-true b.place place (both (nat_le b.place place) (nat_lt place (b.place + length b.bytes.now)) e).0;
  high = below_end b.place (length b.bytes.now) place e;
}

pub found_in : (blocks : List Block) (place : ℕ) (b : Block) → Some b ≡ answer_of (map first_span blocks) place → IsIn place b
found_in [] place b e = absurd (let no : Some b ≡ None = e in cc)
found_in (x ∷ xs) place b e = by_test (covers place (first_span x)) refl e (found_in xs place b)
  where
    by_test : (t : Bool) → covers place (first_span x) ≡ t → Some b ≡ option_map (λ (s : Span Block). s.leads_to) (cond t (Some (first_span x)) (find (covers place) (map first_span xs)))
        → (Some b ≡ answer_of (map first_span xs) place → IsIn place b) → IsIn place b
    by_test true here f later = let same : x ≡ b = cc in is_in place b (ap (λ (y : Block). covers place (first_span y)) (sym same) ∙ here)
    by_test false here f later = later f

-- the first that has the first byte is the first that has them all, if it has them
pub first_with_all : (blocks : List Block) (place len : ℕ) (b : Block) → 0 < len → Some b ≡ answer_of (map first_span blocks) place → has_bytes place len (block_cursor b) ≡ true
    → find (has_bytes place len) (map block_cursor blocks) ≡ Some (block_cursor b)
first_with_all [] place len b some e h = absurd (let no : Some b ≡ None = e in cc)
first_with_all (x ∷ xs) place len b some e h = by_test (covers place (first_span x)) refl e (λ f. first_with_all xs place len b some f h)
  where
    by_test : (t : Bool) → covers place (first_span x) ≡ t → Some b ≡ option_map (λ (s : Span Block). s.leads_to) (cond t (Some (first_span x)) (find (covers place) (map first_span xs)))
        → (Some b ≡ answer_of (map first_span xs) place → find (has_bytes place len) (map block_cursor xs) ≡ Some (block_cursor b))
        → cond (has_bytes place len (block_cursor x)) (Some (block_cursor x)) (find (has_bytes place len) (map block_cursor xs)) ≡ Some (block_cursor b)
    by_test true here f later =
        let same : x ≡ b = cc in
        ap (λ (t : Bool). cond t (Some (block_cursor x)) (find (has_bytes place len) (map block_cursor xs))) (ap (λ (y : Block). has_bytes place len (block_cursor y)) same ∙ h)
        ∙ ap (λ (y : Block). Some (block_cursor y)) same
    by_test false here f later =
        ap (λ (t : Bool). cond t (Some (block_cursor x)) (find (has_bytes place len) (map block_cursor xs))) (not_covered x.place (length x.bytes.now) place len some here) ∙ later f

-- ---- what is read by the blocks
module _ (hs : List SegmentHead) (blocks : List Block) (address place : ℕ) (rise : heads_rise 0 hs ≡ true) where
  abbrev memory : List Region
  memory = regions_by hs (map block_cursor blocks)

  abbrev place_is : (len : ℕ) → Option ℕ → Type 0
  place_is len o = o ≡ option_map (place_of address) (if_holds address len (answer_of (map held_span hs) address))

  pub all_read : (len : ℕ) (b : Block) → 0 < len → place_is len (Some place) → Some b ≡ answer_of (map first_span blocks) place → len ≤ length (drop (place - b.place) b.bytes.now)
      → bytes_at memory address len ≡ Some (take len (drop (place - b.place) b.bytes.now))
  unfolding bytes_at
  all_read len b some e first long =
      let is = found_in blocks place b first in
      let left : length (drop (place - b.place) b.bytes.now) ≡ length b.bytes.now - (place - b.place) = length-drop (place - b.place) b.bytes.now in
      let has = two_true (nat_le b.place place) (nat_le (place + len) (b.place + length b.bytes.now)) (le-leb b.place place is.low)
      (le-leb (place + len) (b.place + length b.bytes.now) (omega (arith, is.low, is.high, left, long))) in
      part_found hs (map block_cursor blocks) address len place some rise (block_cursor b) e (first_with_all blocks place len b some first has) has

  eight_of : (r : Region) → eight_bytes address r ≡ little_number 8 (region_bytes address 8 r)
  eight_of r = sym (little_from-take 0 8 8 (drop (address - r.start) r.bytes) (omega arith))

  number_of : (o : Option Region) (bytes : List ℕ) → option_map (region_bytes address 8) o ≡ Some (take 8 bytes) → option_map (eight_bytes address) o ≡ Some (little_number 8 bytes)
  number_of None bytes e = absurd (let no : None ≡ Some (take 8 bytes) = e in cc)
  number_of (Some r) bytes e =
      let same : region_bytes address 8 r ≡ take 8 bytes = cc in
      ap (λ (n : ℕ). Some n) (eight_of r ∙ ap (little_number 8) same ∙ little_from-take 0 8 8 bytes (omega arith))

  eight_found : (b : Block) → Some b ≡ answer_of (map eight_span blocks) place → find (has_bytes place 8) (map block_cursor blocks) ≡ Some (block_cursor b)
  eight_found b e = sym (first_eight blocks place) ∙ sym (ap (option_map block_cursor) e)

  pub eight_bounds : (b : Block) → Some b ≡ answer_of (map eight_span blocks) place → (b.place ≤ place) × (place + 8 ≤ b.place + length b.bytes.now)
  eight_bounds b e =
      let tests = both (nat_le b.place place) (nat_le (place + 8) (b.place + length b.bytes.now)) (found_passes (has_bytes place 8) (map block_cursor blocks) (block_cursor b) (sym (eight_found b e))) in
      (leb-true b.place place tests.0, leb-true (place + 8) (b.place + length b.bytes.now) tests.1)

  pub eight_read : (b : Block) → address + 8 ≤ 2 ^ 64 → place_is 8 (Some place) → Some b ≡ answer_of (map eight_span blocks) place
      → Some (field_at 8 (place - b.place) b.bytes.now) ≡ read_eight memory address
  eight_read b low e first =
      let within = eight_bounds b first in
      let has = found_passes (has_bytes place 8) (map block_cursor blocks) (block_cursor b) (sym (eight_found b first)) in
      let left : length (drop (place - b.place) b.bytes.now) ≡ length b.bytes.now - (place - b.place) = length-drop (place - b.place) b.bytes.now in
      ap (λ (n : ℕ). Some n) (long_enough (drop (place - b.place) b.bytes.now) (omega (within.0, within.1, left, arith)))
      ∙ sym (read_found memory address low
      ∙ number_of (find (holds_eight address) memory) (drop (place - b.place) b.bytes.now)
      (part_found hs (map block_cursor blocks) address 8 place (omega arith) rise (block_cursor b) e (eight_found b first) has))

  pub no_eight : address + 8 ≤ 2 ^ 64 → place_is 8 (Some place) → None ≡ answer_of (map eight_span blocks) place → None ≡ read_eight memory address
  no_eight low e first =
      sym (read_found memory address low
      ∙ ap (option_map (eight_bytes address))
      (none_found hs (map block_cursor blocks) address 8 place (omega arith) rise e (sym (first_eight blocks place) ∙ sym (ap (option_map block_cursor) first))))

pub no_place : (hs : List SegmentHead) (blocks : List Block) (address : ℕ) → heads_rise 0 hs ≡ true → address + 8 ≤ 2 ^ 64
    → None ≡ option_map (place_of address) (if_holds address 8 (answer_of (map held_span hs) address)) → None ≡ read_eight (regions_by hs (map block_cursor blocks)) address
no_place hs blocks address rise low e =
    sym (read_found (regions_by hs (map block_cursor blocks)) address low
    ∙ ap (option_map (eight_bytes address)) (none_placed hs (map block_cursor blocks) address 8 (omega arith) rise e))

pub past_all : (memory : List Region) (address : ℕ) → 2 ^ 64 < address + 8 → None ≡ read_eight memory address
past_all memory address h = sym (too_high memory address h)
