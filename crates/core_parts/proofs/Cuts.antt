-- What a part of a file has of a segment.
use Rattle.std.specs.Prelude.{nat_le, ◌&&◌}
use Rattle.std.proofs.Common.{◌≡◌, ℕ, ◌+◌, ◌-◌, ◌<◌, ◌≤◌, min, Bool, true, false, List, length, take, drop, refl, sym, ap, ◌∙◌, arith}
use Rattle.std.proofs.lemmas.Bool.{leb-true, le-leb}
use Rattle.std.proofs.lemmas.List.{length-drop, length-take, drop-drop, drop-take, take-take}
use Rattle.sf_bytes.specs.Cursor.{Cursor}
use Rattle.core_notes.specs.MemoryBytes.{holds_bytes, region_bytes}
use Rattle.core_parts.specs.declared.segment.SegmentHead.{SegmentHead}
use Rattle.core_parts.specs.Read.{has_bytes, part_region, place_of}
use Rattle.core_parts.proofs.PartReads.{both, two_true}

-- bytes of a list's first n
pub taken : (n k len : ℕ) (bytes : List ℕ) → k + len ≤ n → take len (drop k (take n bytes)) ≡ take len (drop k bytes)
taken n k len bytes h =
    let all : n ≡ k + (n - k) = omega (h, arith) in
    ap (λ (m : ℕ). take len (drop k (take m bytes))) all ∙ ap (take len) (drop-take k (n - k) bytes) ∙ take-take len (n - k) (drop k bytes) (omega (h, arith))

-- a segment has all of `len` bytes from an address on
abbrev pub is_inside : (address len : ℕ) → SegmentHead → Bool
is_inside address len h = nat_le h.vaddr address && nat_le (address + len) (h.vaddr + h.size)

-- a segment and a part both have them
pub record IsCut (address len : ℕ) (h : SegmentHead) (c : Cursor) : Type 0 where
  pub low : h.vaddr ≤ address
  pub high : address + len ≤ h.vaddr + h.size
  pub from : c.place ≤ place_of address h
  pub to : place_of address h + len ≤ c.place + length c.left

module _ (address len : ℕ) (h : SegmentHead) (c : Cursor) where
  abbrev skipped : List ℕ
  skipped = drop (h.place - c.place) c.left

  abbrev start : ℕ
  start = h.vaddr + (c.place - h.place)

  cut_len : length (take (h.size - (c.place - h.place)) skipped) ≡ min (h.size - (c.place - h.place)) (length skipped)
  cut_len = length-take (h.size - (c.place - h.place)) skipped

  skipped_len : length skipped ≡ length c.left - (h.place - c.place)
  skipped_len = length-drop (h.place - c.place) c.left

  pub is_cut : 0 < len → holds_bytes address len (part_region h c) ≡ true → IsCut address len h c
  is_cut some e =
      let parts = both (nat_le start address) (nat_le (address + len) (start + length (take (h.size - (c.place - h.place)) skipped))) e in
      let low : start ≤ address = leb-true start address parts.0 in
      let high : address + len ≤ start + length (take (h.size - (c.place - h.place)) skipped) = leb-true (address + len) (start + length (take (h.size - (c.place - h.place)) skipped)) parts.1 in
      record {
        low = omega (low, arith);
        high = omega (some, low, high, cut_len, skipped_len, arith);
        from = omega (low, arith);
        to = omega (some, low, high, cut_len, skipped_len, arith);
      }

  pub holds_cut : 0 < len → IsCut address len h c → holds_bytes address len (part_region h c) ≡ true
  holds_cut some w =
      two_true (nat_le start address) (nat_le (address + len) (start + length (take (h.size - (c.place - h.place)) skipped)))
      (le-leb start address (omega (w.low, w.from, arith)))
      (le-leb (address + len) (start + length (take (h.size - (c.place - h.place)) skipped)) (omega (some, w.low, w.high, w.from, w.to, cut_len, skipped_len, arith)))

  both_have : IsCut address len h c → (is_inside address len h && has_bytes (place_of address h) len c) ≡ true
  both_have w =
      two_true (is_inside address len h) (has_bytes (place_of address h) len c)
      (two_true (nat_le h.vaddr address) (nat_le (address + len) (h.vaddr + h.size)) (le-leb h.vaddr address w.low) (le-leb (address + len) (h.vaddr + h.size) w.high))
      (two_true (nat_le c.place (place_of address h)) (nat_le (place_of address h + len) (c.place + length c.left)) (le-leb c.place (place_of address h) w.from)
      (le-leb (place_of address h + len) (c.place + length c.left) w.to))

  pub cut_of : is_inside address len h ≡ true → has_bytes (place_of address h) len c ≡ true → IsCut address len h c
  cut_of inside has =
      let ins = both (nat_le h.vaddr address) (nat_le (address + len) (h.vaddr + h.size)) inside in
      let hs = both (nat_le c.place (place_of address h)) (nat_le (place_of address h + len) (c.place + length c.left)) has in
      record {
        low = leb-true h.vaddr address ins.0;
        high = leb-true (address + len) (h.vaddr + h.size) ins.1;
        from = leb-true c.place (place_of address h) hs.0;
        to = leb-true (place_of address h + len) (c.place + length c.left) hs.1;
      }

  same_test : (a b : Bool) → (a ≡ true → b ≡ true) → (b ≡ true → a ≡ true) → a ≡ b
  same_test true b to from = sym (to refl)
  same_test false true to from = from refl
  same_test false false to from = refl

  -- the part has them in the segment where both have them
  pub cut_holds : 0 < len → holds_bytes address len (part_region h c) ≡ (is_inside address len h && has_bytes (place_of address h) len c)
  cut_holds some =
      same_test (holds_bytes address len (part_region h c)) (is_inside address len h && has_bytes (place_of address h) len c) (λ e. both_have (is_cut some e))
      (λ e. let parts = both (is_inside address len h) (has_bytes (place_of address h) len c) e in holds_cut some (cut_of parts.0 parts.1))

  -- the bytes are those of the part
  pub cut_bytes : 0 < len → IsCut address len h c → region_bytes address len (part_region h c) ≡ take len (drop (place_of address h - c.place) c.left)
  cut_bytes some w =
      let there : (h.place - c.place) + (address - start) ≡ place_of address h - c.place = omega (w.low, w.from, arith) in
      taken (h.size - (c.place - h.place)) (address - start) len skipped (omega (some, w.low, w.high, w.from, arith))
      ∙ ap (take len) (drop-drop (address - start) (h.place - c.place) c.left) ∙ ap (λ (m : ℕ). take len (drop m c.left)) there
