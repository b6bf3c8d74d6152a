-- Parts of a file in the segments of its memory.
use Rattle.std.specs.Prelude.{nat_le, ◌&&◌, ◌||◌, not}
use Rattle.std.specs.List.{filter, find}
use Rattle.std.specs.Option.{option_map, option_or}
use Rattle.std.proofs.Common.{◌≡◌, ℕ, suc, ◌+◌, ◌-◌, ◌^◌, ◌<◌, ◌≤◌, min, Bool, true, false, cond, List, [], ◌∷◌, ◌++◌, length, take, drop, map, Option, Some, None, refl, sym, ap, subst, ◌∙◌, arith, inl, inr}
use Rattle.std.proofs.lemmas.Bool.{cases_lt, leb-true, le-leb, lt-leb}
use Rattle.std.proofs.lemmas.List.{length-drop, length-take, drop-drop}
use Rattle.std.proofs.lemmas.List.Folds.{find-append}
use Rattle.byteorder.specs.Endian.{little_number}
use Rattle.byteorder.specs.Numbers.{little_from-take}
use Rattle.sf_bytes.specs.declared.file_part.FilePart.{FilePart}
use Rattle.sf_bytes.specs.Parts.{AreParts, IsPart}
use Rattle.sf_model.specs.Memory.{Region, eight_bytes, holds_eight}
use Rattle.elf_read.specs.Number.{window}
use Rattle.core_notes.specs.Memory.{file_regions, region_of, regions_in}
use Rattle.core_notes.specs.MemoryBytes.{bytes_at, holds_bytes, region_bytes}
use Rattle.core_notes.specs.Segment.{is_load, segments}
use Rattle.core_walk.specs.PartWalk.{IsPartOf}
use Rattle.core_parts.specs.declared.segment.SegmentHead.{SegmentHead}
use Rattle.core_parts.specs.Heads.{heads_rise, is_memory, memory_in, segment_in}
use Rattle.core_parts.specs.Read.{part_region, place_of, regions_read}
use Rattle.core_parts.specs.Whole.{part_cursor}
use Rattle.core_parts.proofs.Cuts.{IsCut, cut_bytes, is_cut, taken}
use Rattle.core_parts.proofs.PartReads.{both, read_found, too_high, two_true}

-- the memory of a segment
abbrev region_in : List ℕ → SegmentHead → Region
region_in file h = region_of (segment_in file h)

-- ---- one part
-- a region has the bytes of another
record SameBytes (address len : ℕ) (one other : Region) : Type 0 where
  holds : holds_bytes address len one ≡ true
  low : one.start ≤ address
  same : region_bytes address len one ≡ region_bytes address len other

in_file : (file : List ℕ) (h : SegmentHead) (p : FilePart) (address len : ℕ) → 0 < len → IsPart file p → IsCut address len h (part_cursor p) → SameBytes address len (region_in file h) (part_region h (part_cursor p))
in_file file h p address len some is w =
    let q = place_of address h in
    let part_len : length p.bytes.items ≡ min (length p.bytes.items) (length (drop p.place file)) = ap length is ∙ length-take (length p.bytes.items) (drop p.place file) in
    let part_left : length (drop p.place file) ≡ length file - p.place = length-drop p.place file in
    let whole_len : length (take h.size (drop h.place file)) ≡ min h.size (length (drop h.place file)) = length-take h.size (drop h.place file) in
    let left : length (drop h.place file) ≡ length file - h.place = length-drop h.place file in
    let ends : q + len ≤ length file = omega (arith, some, part_len, part_left, w.from, w.to) in
    let high : address + len ≤ h.vaddr + length (take h.size (drop h.place file)) = omega (arith, w.low, w.high, ends, whole_len, left) in
    let fits : (address - h.vaddr) + len ≤ h.size = omega (arith, w.low, w.high) in
    let there : p.place + (q - p.place) ≡ q = omega (arith, w.from) in
    record {
      holds = two_true (nat_le h.vaddr address) (nat_le (address + len) (h.vaddr + length (take h.size (drop h.place file)))) (le-leb h.vaddr address w.low) (le-leb (address + len) (h.vaddr + length (take h.size (drop h.place file))) high);
      low = w.low;
      same =
          taken h.size (address - h.vaddr) len (drop h.place file) fits
          ∙ ap (take len) (drop-drop (address - h.vaddr) h.place file)
          ∙ sym (cut_bytes address len h (part_cursor p) some w
          ∙ ap (λ (bytes : List ℕ). take len (drop (q - p.place) bytes)) is
          ∙ taken (length p.bytes.items) (q - p.place) len (drop p.place file) (omega (arith, w.from, w.to))
          ∙ ap (take len) (drop-drop (q - p.place) p.place file)
          ∙ ap (λ (m : ℕ). take len (drop m file)) there);
    }

-- ---- the parts of one segment
others : (file : List ℕ) (p : FilePart) (ps : List FilePart) → AreParts file (p ∷ ps) → AreParts file ps
others file p ps are = λ k d lt. are (suc k) d (omega (lt, arith))

in_segment : (file : List ℕ) (h : SegmentHead) (ps : List FilePart) (address len : ℕ) (r : Region) → 0 < len → AreParts file ps
    → find (holds_bytes address len) (map (part_region h) (map part_cursor ps)) ≡ Some r → SameBytes address len (region_in file h) r
in_segment file h [] address len r some are e = absurd (let no : None ≡ Some r = e in cc)
in_segment file h (p ∷ ps) address len r some are e = by_bytes (holds_bytes address len (part_region h (part_cursor p))) refl e (in_segment file h ps address len r some (others file p ps are))
  where
    by_bytes : (b : Bool) → holds_bytes address len (part_region h (part_cursor p)) ≡ b
        → cond b (Some (part_region h (part_cursor p))) (find (holds_bytes address len) (map (part_region h) (map part_cursor ps))) ≡ Some r
        → (find (holds_bytes address len) (map (part_region h) (map part_cursor ps)) ≡ Some r → SameBytes address len (region_in file h) r) → SameBytes address len (region_in file h) r
    by_bytes true holds f later =
        let same : part_region h (part_cursor p) ≡ r = cc in
        subst (SameBytes address len (region_in file h)) same
        (in_file file h p address len some (are 0 p (omega arith)) (is_cut address len h (part_cursor p) some holds))
    by_bytes false holds f later = later f

-- ---- all segments
window_short : (file : List ℕ) (h : SegmentHead) → length (window h.place h.size file) ≤ h.size
window_short file h = let len = length-take h.size (drop h.place file) in omega (len, arith)

ends_before : (file : List ℕ) (h : SegmentHead) (address len : ℕ) → 0 < len → h.vaddr + h.size ≤ address → holds_bytes address len (region_in file h) ≡ false
ends_before file h address len some le =
    let short = window_short file h in
    second_false (nat_le h.vaddr address) (nat_le (address + len) (h.vaddr + length (window h.place h.size file)))
    (lt-leb (address + len) (h.vaddr + length (window h.place h.size file)) (omega (some, le, short, arith)))
  where
    second_false : (a b : Bool) → b ≡ false → (a && b) ≡ false
    second_false true b h = h
    second_false false b h = refl

-- the whole memory has the bytes that were read of it, above the memory before
record IsThere (memory : List Region) (end address len : ℕ) (r : Region) : Type 0 where
  region : Region
  found : find (holds_bytes address len) memory ≡ Some region
  same : region_bytes address len region ≡ region_bytes address len r
  above : end ≤ address

-- the memory of a segment and of those after it, if it is memory or not
abbrev memory_by : List ℕ → SegmentHead → List SegmentHead → Bool → List Region
memory_by file h hs b = map region_of (cond b (segment_in file h ∷ filter is_load (map (segment_in file) hs)) (filter is_load (map (segment_in file) hs)))

is_there : (file : List ℕ) (end : ℕ) (hs : List SegmentHead) (ps : List FilePart) (address len : ℕ) (r : Region) → 0 < len → AreParts file ps → heads_rise end hs ≡ true
    → find (holds_bytes address len) (regions_read hs ps) ≡ Some r → IsThere (memory_in file hs) end address len r
is_there file end [] ps address len r some are rise e = absurd (let no : None ≡ Some r = e in cc)
is_there file end (h ∷ hs) ps address len r some are rise e =
    by_kind (is_memory h) rise e (λ from. is_there file from hs ps address len r some are)
  where
    -- whether the segment itself has them
    by_segment : (o : Option Region) → find (holds_bytes address len) (map (part_region h) (map part_cursor ps)) ≡ o → end ≤ h.vaddr
        → option_or o (find (holds_bytes address len) (regions_read hs ps)) ≡ Some r
        → (find (holds_bytes address len) (regions_read hs ps) ≡ Some r → IsThere (memory_in file hs) (h.vaddr + h.size) address len r)
        → IsThere (memory_by file h hs true) end address len r
    by_segment (Some s) here low f later =
        let same : s ≡ r = cc in
        let w = in_segment file h ps address len r some are (here ∙ ap (λ (x : Region). Some x) same) in
        record {
          region = region_in file h;
          found = ap (λ (b : Bool). cond b (Some (region_in file h)) (find (holds_bytes address len) (memory_in file hs))) w.holds;
          same = w.same;
          above = omega (arith, low, w.low);
        }
    by_segment None here low f later =
        let w = later f in
        record {
          region = w.region;
          found = ap (λ (b : Bool). cond b (Some (region_in file h)) (find (holds_bytes address len) (memory_in file hs))) (ends_before file h address len some w.above) ∙ w.found;
          same = w.same;
          above = omega (arith, low, w.above);
        }

    by_kind : (b : Bool) → ((not b || nat_le end h.vaddr) && heads_rise (cond b (h.vaddr + h.size) end) hs) ≡ true
        → find (holds_bytes address len) (cond b (map (part_region h) (map part_cursor ps)) [] ++ regions_read hs ps) ≡ Some r
        → ((from : ℕ) → heads_rise from hs ≡ true → find (holds_bytes address len) (regions_read hs ps) ≡ Some r → IsThere (memory_in file hs) from address len r)
        → IsThere (memory_by file h hs b) end address len r
    by_kind true rise f later =
        let parts = both (nat_le end h.vaddr) (heads_rise (h.vaddr + h.size) hs) rise in
        by_segment (find (holds_bytes address len) (map (part_region h) (map part_cursor ps))) refl (leb-true end h.vaddr parts.0)
        (sym (find-append (holds_bytes address len) (map (part_region h) (map part_cursor ps)) (regions_read hs ps)) ∙ f) (later (h.vaddr + h.size) parts.1)
    by_kind false rise f later = later end rise f

-- ---- reads
by_found : (file : List ℕ) (hs : List SegmentHead) (ps : List FilePart) (address len : ℕ) (bytes : List ℕ) → 0 < len → heads_rise 0 hs ≡ true → AreParts file ps
    → (o : Option Region) → find (holds_bytes address len) (regions_read hs ps) ≡ o
    → option_map (region_bytes address len) o ≡ Some bytes → option_map (region_bytes address len) (find (holds_bytes address len) (memory_in file hs)) ≡ Some bytes
by_found file hs ps address len bytes some rise are None is e = absurd (let no : None ≡ Some bytes = e in cc)
by_found file hs ps address len bytes some rise are (Some r) is e =
    let w = is_there file 0 hs ps address len r some are rise is in
    ap (option_map (region_bytes address len)) w.found ∙ ap (λ (bs : List ℕ). Some bs) w.same ∙ e

pub parts_have_bytes : (file : List ℕ) (heads : List SegmentHead) (parts : List FilePart) (address len : ℕ) (bytes : List ℕ) → 0 < len → heads_rise 0 heads ≡ true → AreParts file parts
    → bytes_at (regions_read heads parts) address len ≡ Some bytes → bytes_at (memory_in file heads) address len ≡ Some bytes
unfolding bytes_at
parts_have_bytes file heads parts address len bytes some rise are e = by_found file heads parts address len bytes some rise are (find (holds_bytes address len) (regions_read heads parts)) refl e

-- the number in eight bytes
eight_of : (address : ℕ) (r : Region) → eight_bytes address r ≡ little_number 8 (region_bytes address 8 r)
eight_of address r = sym (little_from-take 0 8 8 (drop (address - r.start) r.bytes) (omega arith))

by_eight : (file : List ℕ) (hs : List SegmentHead) (ps : List FilePart) (address value : ℕ) → heads_rise 0 hs ≡ true → AreParts file ps → (o : Option Region) → find (holds_eight address) (regions_read hs ps) ≡ o
    → option_map (eight_bytes address) o ≡ Some value → option_map (eight_bytes address) (find (holds_eight address) (memory_in file hs)) ≡ Some value
by_eight file hs ps address value rise are None is e = absurd (let no : None ≡ Some value = e in cc)
by_eight file hs ps address value rise are (Some r) is e =
    let w = is_there file 0 hs ps address 8 r (omega arith) are rise is in
    ap (option_map (eight_bytes address)) w.found
    ∙ ap (λ (n : ℕ). Some n) (eight_of address w.region ∙ ap (little_number 8) w.same ∙ sym (eight_of address r)) ∙ e

pub parts_are_part : (file : List ℕ) (heads : List SegmentHead) (parts : List FilePart) → heads_rise 0 heads ≡ true → AreParts file parts → IsPartOf (regions_read heads parts) (memory_in file heads)
parts_are_part file heads parts rise are address value e =
    elim (cases_lt (2 ^ 64) (address + 8)) [
      | inl high ↦ absurd (let no : None ≡ Some value = sym (too_high (regions_read heads parts) address high) ∙ e in cc)
      | inr low ↦
          read_found (memory_in file heads) address (omega (low, arith))
          ∙ by_eight file heads parts address value rise are (find (holds_eight address) (regions_read heads parts)) refl (sym (read_found (regions_read heads parts) address (omega (low, arith))) ∙ e)
    ]

-- the memory of a file with these segments
pub same_memory : (file : List ℕ) (heads : List SegmentHead) → segments file ≡ map (segment_in file) heads → file_regions file ≡ memory_in file heads
same_memory file heads are = ap regions_in are

pub file_memory_is : (file : List ℕ) (heads : List SegmentHead) (parts : List FilePart) → segments file ≡ map (segment_in file) heads → heads_rise 0 heads ≡ true → AreParts file parts
    → IsPartOf (regions_read heads parts) (file_regions file)
file_memory_is file heads parts are rise apart =
    subst (λ (memory : List Region). IsPartOf (regions_read heads parts) memory) (sym (same_memory file heads are)) (parts_are_part file heads parts rise apart)

pub file_bytes_are : (file : List ℕ) (heads : List SegmentHead) (parts : List FilePart) (address len : ℕ) (bytes : List ℕ) → segments file ≡ map (segment_in file) heads → 0 < len → heads_rise 0 heads ≡ true → AreParts file parts
    → bytes_at (regions_read heads parts) address len ≡ Some bytes → bytes_at (file_regions file) address len ≡ Some bytes
file_bytes_are file heads parts address len bytes are some rise apart e =
    ap (λ (memory : List Region). bytes_at memory address len) (same_memory file heads are) ∙ parts_have_bytes file heads parts address len bytes some rise apart e
