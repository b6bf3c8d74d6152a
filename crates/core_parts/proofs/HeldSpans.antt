-- The first segment that has bytes at an address, where the segments' addresses rise: no other has any there.
use Rattle.std.specs.Prelude.{nat_le, nat_lt, ◌&&◌, ◌||◌, not, is_some}
use Rattle.std.specs.List.{find, list_any}
use Rattle.std.specs.Option.{option_map}
use Rattle.std.proofs.Common.{◌≡◌, ℕ, ◌+◌, ◌<◌, ◌≤◌, Bool, true, false, cond, List, [], ◌∷◌, length, map, Option, Some, None, refl, sym, ap, ◌∙◌, arith, inl, inr}
use Rattle.std.proofs.lemmas.Bool.{cases_lt, leb-true, le-ltb, lt-leb, lt-ltb, le-leb}
use Rattle.sf_lookup.specs.declared.span.Span.{Span}
use Rattle.sf_lookup.specs.Span.{answer_of, covers}
use Rattle.core_notes.specs.Memory.{file_regions}
use Rattle.core_notes.specs.MemoryBytes.{bytes_at}
use Rattle.core_notes.proofs.Loads.{none_covered}
use Rattle.sf_model.specs.Memory.{Region}
use Rattle.core_parts.specs.declared.partial_core.PartialCore.{PartialCore}
use Rattle.core_parts.specs.declared.segment.SegmentHead.{SegmentHead}
use Rattle.core_parts.specs.Heads.{end_after, head_holds, heads_lie, heads_rise, held_span, is_memory, rises}
use Rattle.core_parts.specs.Partial.{partial_file}
use Rattle.core_parts.proofs.InputParts.{is_whole_of}
use Rattle.core_parts.proofs.PartReads.{both, bytes_held}
use Rattle.core_parts.proofs.Windows.{same_memory}

-- whether the segment that was found holds the bytes
abbrev pub found_holds : (address len : ℕ) → Option SegmentHead → Bool
found_holds address len (Some h) = head_holds address len h
found_holds address len None = false

-- ---- below all segments
pub not_low : (vaddr address : ℕ) (rest : Bool) → address < vaddr → (nat_le vaddr address && rest) ≡ false
not_low vaddr address rest lt = ap (λ (b : Bool). b && rest) (lt-leb vaddr address lt)

pub none_above : (end : ℕ) (hs : List SegmentHead) (address len : ℕ) → heads_rise end hs ≡ true → address < end → list_any (head_holds address len) hs ≡ false
none_above end [] address len rise lt = refl
none_above end (h ∷ hs) address len rise lt =
    let parts = both (rises end h) (heads_rise (end_after end h) hs) rise in
    by_kind (is_memory h) parts.0 parts.1 (λ from e below. none_above from hs address len e below)
  where
    by_kind : (b : Bool) → (not b || nat_le end h.vaddr) ≡ true → heads_rise (cond b (h.vaddr + h.size) end) hs ≡ true
        → ((from : ℕ) → heads_rise from hs ≡ true → address < from → list_any (head_holds address len) hs ≡ false)
        → ((b && (nat_le h.vaddr address && nat_le (address + len) (h.vaddr + h.size))) || list_any (head_holds address len) hs) ≡ false
    by_kind true low later next =
        let above : end ≤ h.vaddr = leb-true end h.vaddr low in
        ap (λ (b : Bool). b || list_any (head_holds address len) hs) (not_low h.vaddr address (nat_le (address + len) (h.vaddr + h.size)) (omega (lt, above, arith)))
        ∙ next (h.vaddr + h.size) later (omega (lt, above, arith))
    by_kind false low later next = next end later lt

-- ---- the first that has the address
-- a segment that hasn't the first byte hasn't them all
pub not_covered : (vaddr size address len : ℕ) → 0 < len → (nat_le vaddr address && nat_lt address (vaddr + size)) ≡ false → (nat_le vaddr address && nat_le (address + len) (vaddr + size)) ≡ false
not_covered vaddr size address len some e = elim (cases_lt address vaddr) [
  | inl before ↦ not_low vaddr address (nat_le (address + len) (vaddr + size)) before
  | inr from ↦ elim (cases_lt address (vaddr + size)) [
    | inl within ↦ absurd (let yes : true ≡ false = sym (ap (λ (b : Bool). b && nat_lt address (vaddr + size)) (le-leb vaddr address from) ∙ lt-ltb address (vaddr + size) within) ∙ e in cc)
    | inr past ↦ ap (λ (b : Bool). b && nat_le (address + len) (vaddr + size)) (le-leb vaddr address from) ∙ lt-leb (address + len) (vaddr + size) (omega (past, some, arith))
  ]
]

pub below_end : (vaddr size address : ℕ) → (nat_le vaddr address && nat_lt address (vaddr + size)) ≡ true → address < vaddr + size
below_end vaddr size address e = elim (cases_lt address (vaddr + size)) [
  | inl within ↦ within
  | inr past ↦ absurd (let no : false ≡ true = sym (le-ltb address (vaddr + size) past) ∙ (both (nat_le vaddr address) (nat_lt address (vaddr + size)) e).1 in cc)
]

or_none : (b : Bool) → (b || false) ≡ b
or_none true = refl
or_none false = refl

pub first_holds : (end : ℕ) (hs : List SegmentHead) (address len : ℕ) → 0 < len → heads_rise end hs ≡ true
    → found_holds address len (answer_of (map held_span hs) address) ≡ list_any (head_holds address len) hs
first_holds end [] address len some rise = refl
first_holds end (h ∷ hs) address len some rise =
    let parts = both (rises end h) (heads_rise (end_after end h) hs) rise in
    by_kind (is_memory h) refl parts.1 (λ from e. first_holds from hs address len some e)
  where
    at_test : (b : Bool) → (nat_le h.vaddr address && nat_lt address (h.vaddr + h.size)) ≡ b → is_memory h ≡ true → heads_rise (h.vaddr + h.size) hs ≡ true
        → found_holds address len (answer_of (map held_span hs) address) ≡ list_any (head_holds address len) hs
        → found_holds address len (option_map (λ (s : Span SegmentHead). s.leads_to) (cond b (Some (record { start = h.vaddr; size = h.size; leads_to = h })) (find (covers address) (map held_span hs))))
        ≡ ((nat_le h.vaddr address && nat_le (address + len) (h.vaddr + h.size)) || list_any (head_holds address len) hs)
    at_test true e memory later next =
        let none = none_above (h.vaddr + h.size) hs address len later (below_end h.vaddr h.size address e) in
        ap (λ (b : Bool). b && (nat_le h.vaddr address && nat_le (address + len) (h.vaddr + h.size))) memory
        ∙ sym (ap (λ (b : Bool). (nat_le h.vaddr address && nat_le (address + len) (h.vaddr + h.size)) || b) none ∙ or_none (nat_le h.vaddr address && nat_le (address + len) (h.vaddr + h.size)))
    at_test false e memory later next = next ∙ sym (ap (λ (b : Bool). b || list_any (head_holds address len) hs) (not_covered h.vaddr h.size address len some e))

    by_kind : (b : Bool) → is_memory h ≡ b → heads_rise (cond b (h.vaddr + h.size) end) hs ≡ true
        → ((from : ℕ) → heads_rise from hs ≡ true → found_holds address len (answer_of (map held_span hs) address) ≡ list_any (head_holds address len) hs)
        → found_holds address len (option_map (λ (s : Span SegmentHead). s.leads_to)
        (cond (nat_le h.vaddr address && nat_lt address (h.vaddr + cond b h.size 0)) (Some (record { start = h.vaddr; size = cond b h.size 0; leads_to = h })) (find (covers address) (map held_span hs))))
        ≡ ((b && (nat_le h.vaddr address && nat_le (address + len) (h.vaddr + h.size))) || list_any (head_holds address len) hs)
    by_kind true memory later next = at_test (nat_le h.vaddr address && nat_lt address (h.vaddr + h.size)) refl memory later (next (h.vaddr + h.size) later)
    by_kind false memory later next =
        ap (λ (b : Bool). found_holds address len (option_map (λ (s : Span SegmentHead). s.leads_to) (cond b (Some (record { start = h.vaddr; size = 0; leads_to = h })) (find (covers address) (map held_span hs)))))
        (none_covered h.vaddr address) ∙ next end later

-- ---- a core file of which parts were read
pub found_in_file : (partial : PartialCore) (address len : ℕ) → 0 < len
    → found_holds address len (answer_of (map held_span partial.core.head.heads.items) address) ≡ is_some (bytes_at (file_regions (partial_file partial)) address len)
found_in_file partial address len some =
    let file = partial_file partial in
    let heads = partial.core.head.heads.items in
    let lie : heads_lie (length file) heads ≡ true = ap (λ (n : ℕ). heads_lie n heads) partial.sized ∙ partial.core.lie in
    first_holds 0 heads address len some partial.core.rise ∙ bytes_held file address len heads lie
    ∙ ap (λ (memory : List Region). is_some (bytes_at memory address len)) (sym (same_memory file heads (partial.core.segments_are file (is_whole_of partial))))
