-- The eight bytes at an address, by the segment that holds them.
use Rattle.std.specs.List.{find}
use Rattle.std.specs.Option.{option_map}
use Rattle.std.proofs.Common.{◌≡◌, ℕ, ◌+◌, ◌-◌, ◌^◌, ◌<◌, ◌≤◌, Bool, cond, List, length, drop, Option, Some, None, sym, ap, ◌∙◌, arith}
use Rattle.std.proofs.lemmas.Bool.{le-leb, lt-leb, le-ltb}
use Rattle.std.proofs.lemmas.List.{length-drop}
use Rattle.byteorder.specs.Endian.{little_number}
use Rattle.sf_model.specs.Memory.{Region, eight_bytes, holds_eight, read_eight}
use Rattle.elf_read.specs.Number.{front_number, field_at}
use Rattle.core_notes.specs.Segment.{SegmentView, segments}
use Rattle.core_notes.specs.Memory.{file_regions, is_holder, region_of}
use Rattle.core_notes.proofs.BytesHeld.{holder_holds, regions_find}

-- ---- what is read
pub too_high : (memory : List Region) (address : ℕ) → 2 ^ 64 < address + 8 → read_eight memory address ≡ None
unfolding read_eight
too_high memory address h = ap (λ (b : Bool). cond b (option_map (eight_bytes address) (find (holds_eight address) memory)) None) (lt-leb (address + 8) (2 ^ 64) h)

read_found : (memory : List Region) (address : ℕ) → address + 8 ≤ 2 ^ 64 → read_eight memory address ≡ option_map (eight_bytes address) (find (holds_eight address) memory)
unfolding read_eight
read_found memory address h = ap (λ (b : Bool). cond b (option_map (eight_bytes address) (find (holds_eight address) memory)) None) (le-leb (address + 8) (2 ^ 64) h)

pub read_none : (file : List ℕ) (address : ℕ) → address + 8 ≤ 2 ^ 64 → None ≡ find (is_holder address) (segments file) → None ≡ read_eight (file_regions file) address
read_none file address h e =
    ap (λ (o : Option SegmentView). option_map (eight_bytes address) (option_map region_of o)) e
    ∙ ap (option_map (eight_bytes address)) (sym (regions_find address 8 (segments file)))
    ∙ sym (read_found (file_regions file) address h)

long_enough : (bytes : List ℕ) → 8 ≤ length bytes → front_number 8 bytes ≡ little_number 8 bytes
unfolding front_number
long_enough bytes h = ap (λ (b : Bool). cond b 0 (little_number 8 bytes)) (le-ltb (length bytes) 8 h)

pub read_some : (file : List ℕ) (address : ℕ) (s : SegmentView) → address + 8 ≤ 2 ^ 64 → Some s ≡ find (is_holder address) (segments file)
    → Some (field_at 8 (address - s.vaddr) s.bytes) ≡ read_eight (file_regions file) address
read_some file address s h e =
    let held = holder_holds address 8 (segments file) s e in
    let len : length (drop (address - s.vaddr) s.bytes) ≡ length s.bytes - (address - s.vaddr) = length-drop (address - s.vaddr) s.bytes in
    ap (λ (n : ℕ). Some n) (long_enough (drop (address - s.vaddr) s.bytes) (omega (held.from, held.to, len, arith)))
    ∙ ap (λ (o : Option SegmentView). option_map (eight_bytes address) (option_map region_of o)) e
    ∙ ap (option_map (eight_bytes address)) (sym (regions_find address 8 (segments file)))
    ∙ sym (read_found (file_regions file) address h)
