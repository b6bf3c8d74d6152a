-- Fields in the first bytes of a file, and in its program headers, are those of the file.
use Rattle.std.specs.List.{list_all, range_with_len}
use Rattle.std.proofs.Common.{◌≡◌, ℕ, zero, suc, ◌+◌, ◌*◌, ◌<◌, ◌≤◌, ◌==◌, Bool, true, cond, List, ◌∷◌, drop, map, refl, ap, subst, ◌∙◌, arith, inl, inr}
use Rattle.std.proofs.lemmas.Bool.{cases_lt}
use Rattle.elf_read.specs.Number.{field_at, has_flag, window}
use Rattle.elf_read.specs.Header.{header_fields, p_type, p_vaddr, p_offset, p_filesz}
use Rattle.elf_read.specs.SegmentFields.{p_flags, p_memsz}
use Rattle.sf_lookup.specs.declared.span.Span.{Span}
use Rattle.core_notes.specs.MemoryBytes.{load_span}
use Rattle.core_notes.specs.Segment.{SegmentView, segment_of}
use Rattle.core_parts.specs.declared.segment.SegmentHead.{SegmentHead}
use Rattle.core_parts.specs.Heads.{head_span, segment_in}
use Rattle.core_parts.specs.Table.{head_at}
use Rattle.elf_read.proofs.HeadersKept.{number_kept, fields_kept as front_kept}
use Rattle.core_parts.proofs.PartReads.{both}

-- ---- the file header
pub fields_kept : (file header : List ℕ) → header ≡ window 0 64 file → header_fields header ≡ header_fields file
fields_kept file header is = ap header_fields is ∙ front_kept file

-- ---- the program headers
abbrev view_by : List ℕ → (kind vaddr place size : ℕ) → SegmentView
view_by file kind vaddr place size = record { kind = kind; vaddr = vaddr; place = place; bytes = window place size file }

same_view : (file : List ℕ) (a b c d a2 b2 c2 d2 : ℕ) → a ≡ a2 → b ≡ b2 → c ≡ c2 → d ≡ d2 → view_by file a b c d ≡ view_by file a2 b2 c2 d2
same_view file a b c d a2 b2 c2 d2 p q r s =
    ap (λ (n : ℕ). view_by file n b c d) p ∙ ap (λ (n : ℕ). view_by file a2 n c d) q ∙ ap (λ (n : ℕ). view_by file a2 b2 n d) r ∙ ap (λ (n : ℕ). view_by file a2 b2 c2 n) s

-- the table has all program headers of the file
abbrev pub IsTableOf : List ℕ → (table : List ℕ) → (count : ℕ) → Type 0
IsTableOf file table count = table ≡ window (header_fields file).e_phoff (56 * count) file

field_kept : (w place i count : ℕ) (file table : List ℕ) → IsTableOf file table count → i < count → place + w ≤ 56 → field_at w (56 * i + place) table ≡ field_at w (56 * i + place) (drop (header_fields file).e_phoff file)
field_kept w place i count file table is below within =
    ap (field_at w (56 * i + place)) is ∙ number_kept w (56 * i + place) (56 * count) (drop (header_fields file).e_phoff file) (omega (arith, below, within))

segment_kept : (file table : List ℕ) (count i : ℕ) → IsTableOf file table count → i < count → segment_in file (head_at table i) ≡ segment_of file i
unfolding p_type p_vaddr p_offset p_filesz
segment_kept file table count i is below =
    same_view file _ _ _ _ _ _ _ _ (field_kept 4 0 i count file table is below (omega arith)) (field_kept 8 16 i count file table is below (omega arith))
    (field_kept 8 8 i count file table is below (omega arith)) (field_kept 8 32 i count file table is below (omega arith))

pub place_kept : (file table : List ℕ) (count i : ℕ) → IsTableOf file table count → i < count → (head_at table i).place ≡ p_offset file i
unfolding p_offset
place_kept file table count i is below = field_kept 8 8 i count file table is below (omega arith)

pub size_kept : (file table : List ℕ) (count i : ℕ) → IsTableOf file table count → i < count → (head_at table i).size ≡ p_filesz file i
unfolding p_filesz
size_kept file table count i is below = field_kept 8 32 i count file table is below (omega arith)

map_same : {X : Type 0} (f : SegmentHead → X) (g : ℕ → SegmentHead) (k : ℕ → X) (a n : ℕ) → ((i : ℕ) → a ≤ i → i < a + n → f (g i) ≡ k i)
    → map f (map g (range_with_len a n)) ≡ map k (range_with_len a n)
map_same f g k a zero h = refl
map_same {X} f g k a (suc n) h =
    ap (λ (s : X). s ∷ map f (map g (range_with_len (a + 1) n))) (h a (omega arith) (omega arith))
    ∙ ap (λ (ss : List X). k a ∷ ss) (map_same f g k (a + 1) n (λ i low high. h i (omega (arith, low)) (omega (arith, high))))

pub segments_kept : (file table : List ℕ) (count : ℕ) → IsTableOf file table count
    → map (segment_in file) (map (head_at table) (range_with_len 0 count)) ≡ map (segment_of file) (range_with_len 0 count)
segments_kept file table count is = map_same (segment_in file) (head_at table) (segment_of file) 0 count (λ i low high. segment_kept file table count i is (omega (arith, high)))

-- where the segments are in memory
abbrev span_by : (start memory_size kind flags : ℕ) → Span Bool
span_by start memory_size kind flags = record { start = start; size = cond (kind == 1) memory_size 0; leads_to = has_flag flags 1 }

same_span : (a b c d a2 b2 c2 d2 : ℕ) → a ≡ a2 → b ≡ b2 → c ≡ c2 → d ≡ d2 → span_by a b c d ≡ span_by a2 b2 c2 d2
same_span a b c d a2 b2 c2 d2 p q r s = rw (p, q, r, s) refl

load_kept : (file table : List ℕ) (count i : ℕ) → IsTableOf file table count → i < count → head_span (head_at table i) ≡ load_span file i
unfolding p_type p_vaddr p_memsz p_flags
load_kept file table count i is below =
    same_span _ _ _ _ _ _ _ _ (field_kept 8 16 i count file table is below (omega arith)) (field_kept 8 40 i count file table is below (omega arith))
    (field_kept 4 0 i count file table is below (omega arith)) (field_kept 4 4 i count file table is below (omega arith))

pub loads_kept : (file table : List ℕ) (count : ℕ) → IsTableOf file table count
    → map head_span (map (head_at table) (range_with_len 0 count)) ≡ map (load_span file) (range_with_len 0 count)
loads_kept file table count is = map_same head_span (head_at table) (load_span file) 0 count (λ i low high. load_kept file table count i is (omega (arith, high)))

-- what holds of all headers holds of each
pub all_at : (p : SegmentHead → Bool) (f : ℕ → SegmentHead) (a n i : ℕ) → list_all p (map f (range_with_len a n)) ≡ true → a ≤ i → i < a + n → p (f i) ≡ true
all_at p f a zero i e low high = absurd (omega (arith, low, high))
all_at p f a (suc n) i e low high =
    let parts = both (p (f a)) (list_all p (map f (range_with_len (a + 1) n))) e in
    elim (cases_lt a i) [
      | inl more ↦ all_at p f (a + 1) n i parts.1 (omega (arith, more)) (omega (arith, high))
      | inr not_more ↦ let same : a ≡ i = omega (arith, low, not_more) in subst (λ (k : ℕ). p (f k) ≡ true) same parts.0
    ]
