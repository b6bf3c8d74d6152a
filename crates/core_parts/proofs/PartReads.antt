-- What is read of parts of a file.
use Rattle.std.specs.Prelude.{nat_le, ◌&&◌, ◌||◌, is_some}
use Rattle.std.specs.List.{filter, find, list_any}
use Rattle.std.specs.Option.{option_map}
use Rattle.std.proofs.Common.{◌≡◌, ℕ, ◌+◌, ◌-◌, ◌^◌, ◌<◌, ◌≤◌, min, Bool, true, false, cond, List, [], ◌∷◌, length, take, drop, map, Option, Some, None, refl, sym, ap, ◌∙◌, arith}
use Rattle.std.proofs.lemmas.Bool.{leb-true, le-leb, lt-leb, le-ltb}
use Rattle.std.proofs.lemmas.List.{length-drop, length-take}
use Rattle.byteorder.specs.Endian.{little_number}
use Rattle.sf_model.specs.Memory.{Region, eight_bytes, holds_eight, read_eight}
use Rattle.core_notes.specs.MemoryBytes.{bytes_at, holds_bytes, region_bytes}
use Rattle.elf_read.specs.Number.{front_number, window}
use Rattle.core_notes.specs.Memory.{region_of}
use Rattle.core_notes.specs.Segment.{is_load}
use Rattle.core_parts.specs.declared.segment.SegmentHead.{SegmentHead}
use Rattle.core_parts.specs.Heads.{head_holds, head_lies, heads_lie, is_memory, memory_in, segment_in}

pub both : (a b : Bool) → (a && b) ≡ true → (a ≡ true) × (b ≡ true)
both true true h = (refl, refl)
both true false h = absurd (let no : false ≡ true = h in cc)
both false b h = absurd (let no : false ≡ true = h in cc)

pub two_true : (a b : Bool) → a ≡ true → b ≡ true → (a && b) ≡ true
two_true true b h k = k
two_true false b h k = h

-- ---- reads of any memory
pub too_high : (memory : List Region) (address : ℕ) → 2 ^ 64 < address + 8 → read_eight memory address ≡ None
unfolding read_eight
too_high memory address h = ap (λ (b : Bool). cond b (option_map (eight_bytes address) (find (holds_eight address) memory)) None) (lt-leb (address + 8) (2 ^ 64) h)

pub read_found : (memory : List Region) (address : ℕ) → address + 8 ≤ 2 ^ 64 → read_eight memory address ≡ option_map (eight_bytes address) (find (holds_eight address) memory)
unfolding read_eight
read_found memory address h = ap (λ (b : Bool). cond b (option_map (eight_bytes address) (find (holds_eight address) memory)) None) (le-leb (address + 8) (2 ^ 64) h)

-- ---- the bytes of a part
pub long_enough : (bytes : List ℕ) → 8 ≤ length bytes → front_number 8 bytes ≡ little_number 8 bytes
unfolding front_number
long_enough bytes h = ap (λ (b : Bool). cond b 0 (little_number 8 bytes)) (le-ltb (length bytes) 8 h)

-- ---- what the whole memory has
some_mapped : {X Y : Type 0} (f : X → Y) (o : Option X) → is_some (option_map f o) ≡ is_some o
some_mapped f (Some r) = refl
some_mapped f None = refl

some_if : (b : Bool) (r : Region) (o : Option Region) → is_some (cond b (Some r) o) ≡ (b || is_some o)
some_if true r o = refl
some_if false r o = refl

-- a segment whose bytes lie in the file has as many as its header says
full_length : (file : List ℕ) (h : SegmentHead) → head_lies (length file) h ≡ true → length (window h.place h.size file) ≡ h.size
full_length file h e =
    let within : h.place + h.size ≤ length file = leb-true (h.place + h.size) (length file) e in
    let taken : length (take h.size (drop h.place file)) ≡ min h.size (length (drop h.place file)) = length-take h.size (drop h.place file) in
    let dropped : length (drop h.place file) ≡ length file - h.place = length-drop h.place file in
    omega (arith, within, taken, dropped)

holds_by_head : (file : List ℕ) (address len : ℕ) (h : SegmentHead) → head_lies (length file) h ≡ true
    → holds_bytes address len (region_of (segment_in file h)) ≡ (nat_le h.vaddr address && nat_le (address + len) (h.vaddr + h.size))
holds_by_head file address len h e = ap (λ (n : ℕ). nat_le h.vaddr address && nat_le (address + len) (h.vaddr + n)) (full_length file h e)

held_by_heads : (file : List ℕ) (address len : ℕ) (hs : List SegmentHead) → heads_lie (length file) hs ≡ true
    → list_any (head_holds address len) hs ≡ is_some (find (holds_bytes address len) (memory_in file hs))
held_by_heads file address len [] e = refl
held_by_heads file address len (h ∷ hs) e =
    let parts = both (head_lies (length file) h) (heads_lie (length file) hs) e in
    by_kind (is_memory h) (held_by_heads file address len hs parts.1) (holds_by_head file address len h parts.0)
  where
    by_kind : (b : Bool) → list_any (head_holds address len) hs ≡ is_some (find (holds_bytes address len) (memory_in file hs))
        → holds_bytes address len (region_of (segment_in file h)) ≡ (nat_le h.vaddr address && nat_le (address + len) (h.vaddr + h.size))
        → ((b && (nat_le h.vaddr address && nat_le (address + len) (h.vaddr + h.size))) || list_any (head_holds address len) hs)
        ≡ is_some (find (holds_bytes address len) (map region_of (cond b (segment_in file h ∷ filter is_load (map (segment_in file) hs)) (filter is_load (map (segment_in file) hs)))))
    by_kind true later same =
        ap (λ (b : Bool). b || list_any (head_holds address len) hs) (sym same)
        ∙ ap (λ (b : Bool). holds_bytes address len (region_of (segment_in file h)) || b) later
        ∙ sym (some_if (holds_bytes address len (region_of (segment_in file h))) (region_of (segment_in file h)) (find (holds_bytes address len) (memory_in file hs)))
    by_kind false later same = later

-- the eight bytes of a value are any eight bytes
pub eight_held : (memory : List Region) (address : ℕ) → address + 8 ≤ 2 ^ 64 → is_some (bytes_at memory address 8) ≡ is_some (read_eight memory address)
unfolding bytes_at
eight_held memory address low =
    some_mapped (region_bytes address 8) (find (holds_bytes address 8) memory)
    ∙ sym (some_mapped (eight_bytes address) (find (holds_eight address) memory)) ∙ ap is_some (sym (read_found memory address low))

pub bytes_held : (file : List ℕ) (address len : ℕ) (hs : List SegmentHead) → heads_lie (length file) hs ≡ true
    → list_any (head_holds address len) hs ≡ is_some (bytes_at (memory_in file hs) address len)
unfolding bytes_at
bytes_held file address len hs e = held_by_heads file address len hs e ∙ sym (some_mapped (region_bytes address len) (find (holds_bytes address len) (memory_in file hs)))

pub none_too_high : (memory : List Region) (address : ℕ) → 2 ^ 64 < address + 8 → false ≡ is_some (read_eight memory address)
none_too_high memory address h = ap is_some (sym (too_high memory address h))

-- what lies in a file lies in a longer one
pub lie_longer : (m n : ℕ) (hs : List SegmentHead) → m ≤ n → heads_lie m hs ≡ true → heads_lie n hs ≡ true
lie_longer m n [] le e = refl
lie_longer m n (h ∷ hs) le e =
    let parts = both (head_lies m h) (heads_lie m hs) e in
    let lies : h.place + h.size ≤ m = leb-true (h.place + h.size) m parts.0 in
    two_true (head_lies n h) (heads_lie n hs) (le-leb (h.place + h.size) n (omega (lies, le, arith))) (lie_longer m n hs le parts.1)
