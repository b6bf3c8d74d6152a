-- What is read at an address: of the segment that has it, by the first part that has its place.
use Rattle.std.specs.Prelude.{nat_le, nat_lt, ◌&&◌, ◌||◌, not}
use Rattle.std.specs.List.{find}
use Rattle.std.specs.Option.{option_map, option_or}
use Rattle.std.proofs.Common.{◌≡◌, ℕ, ◌+◌, ◌-◌, ◌<◌, ◌≤◌, Bool, true, false, cond, List, [], ◌∷◌, ◌++◌, take, drop, map, Option, Some, None, refl, sym, ap, ◌∙◌, arith}
use Rattle.std.proofs.lemmas.Bool.{leb-true}
use Rattle.std.proofs.lemmas.List.Folds.{find-append}
use Rattle.sf_bytes.specs.Cursor.{Cursor}
use Rattle.sf_lookup.specs.declared.span.Span.{Span}
use Rattle.sf_lookup.specs.Span.{answer_of, covers}
use Rattle.sf_model.specs.Memory.{Region}
use Rattle.core_notes.specs.MemoryBytes.{holds_bytes, region_bytes}
use Rattle.core_notes.proofs.Loads.{none_covered}
use Rattle.core_parts.specs.declared.segment.SegmentHead.{SegmentHead}
use Rattle.core_parts.specs.Heads.{end_after, head_holds, head_lies, heads_lie, heads_rise, held_span, if_holds, is_memory, rises}
use Rattle.core_parts.specs.Read.{has_bytes, part_region, place_of, regions_by}
use Rattle.core_parts.proofs.Cuts.{cut_bytes, cut_holds, cut_of, is_inside}
use Rattle.core_parts.proofs.HeldSpans.{below_end, not_covered, not_low}
use Rattle.core_parts.proofs.PartReads.{both}

-- the segment, with the part that has its bytes at the place
abbrev pub region_by : (address len : ℕ) → List Cursor → Option SegmentHead → Option Region
region_by address len cs (Some h) = option_map (part_region h) (find (has_bytes (place_of address h) len) cs)
region_by address len cs None = None

or_none : (o : Option Region) → option_or o None ≡ o
or_none (Some r) = refl
or_none None = refl

module _ (address len : ℕ) (some : 0 < len) (cs : List Cursor) where
  abbrev pub holds : Region → Bool
  holds = holds_bytes address len

  -- ---- one segment
  in_segment : (h : SegmentHead) (b : Bool) → is_inside address len h ≡ b → (ps : List Cursor)
      → find holds (map (part_region h) ps) ≡ cond b (option_map (part_region h) (find (has_bytes (place_of address h) len) ps)) None
  in_segment h true e [] = refl
  in_segment h false e [] = refl
  in_segment h true e (c ∷ ps) =
      ap (λ (t : Bool). cond t (Some (part_region h c)) (find holds (map (part_region h) ps)))
      (cut_holds address len h c some ∙ ap (λ (t : Bool). t && has_bytes (place_of address h) len c) e)
      ∙ by_test (has_bytes (place_of address h) len c) (in_segment h true e ps)
    where
      by_test : (t : Bool) → find holds (map (part_region h) ps) ≡ option_map (part_region h) (find (has_bytes (place_of address h) len) ps)
          → cond t (Some (part_region h c)) (find holds (map (part_region h) ps)) ≡ option_map (part_region h) (cond t (Some c) (find (has_bytes (place_of address h) len) ps))
      by_test true later = refl
      by_test false later = later
  in_segment h false e (c ∷ ps) =
      ap (λ (t : Bool). cond t (Some (part_region h c)) (find holds (map (part_region h) ps)))
      (cut_holds address len h c some ∙ ap (λ (t : Bool). t && has_bytes (place_of address h) len c) e)
      ∙ in_segment h false e ps

  -- ---- all segments
  -- the regions of a segment and of those after it, if it is memory or not
  abbrev regions_from : SegmentHead → List SegmentHead → Bool → List Region
  regions_from h hs b = cond b (map (part_region h) cs) [] ++ regions_by hs cs

  first_of : (h : SegmentHead) (hs : List SegmentHead) → find holds (regions_from h hs true) ≡ option_or (find holds (map (part_region h) cs)) (find holds (regions_by hs cs))
  first_of h hs = find-append holds (map (part_region h) cs) (regions_by hs cs)

  not_this : (h : SegmentHead) (hs : List SegmentHead) → is_inside address len h ≡ false → find holds (regions_from h hs true) ≡ find holds (regions_by hs cs)
  not_this h hs e = first_of h hs ∙ ap (λ (o : Option Region). option_or o (find holds (regions_by hs cs))) (in_segment h false e cs)

  none_later : (end : ℕ) (hs : List SegmentHead) → heads_rise end hs ≡ true → address < end → find holds (regions_by hs cs) ≡ None
  none_later end [] rise lt = refl
  none_later end (h ∷ hs) rise lt =
      let parts = both (rises end h) (heads_rise (end_after end h) hs) rise in
      by_kind (is_memory h) parts.0 parts.1 (λ from e below. none_later from hs e below)
    where
      by_kind : (b : Bool) → (not b || nat_le end h.vaddr) ≡ true → heads_rise (cond b (h.vaddr + h.size) end) hs ≡ true
          → ((from : ℕ) → heads_rise from hs ≡ true → address < from → find holds (regions_by hs cs) ≡ None)
          → find holds (regions_from h hs b) ≡ None
      by_kind true low later next =
          let above : end ≤ h.vaddr = leb-true end h.vaddr low in
          not_this h hs (not_low h.vaddr address (nat_le (address + len) (h.vaddr + h.size)) (omega (lt, above, arith)))
          ∙ next (h.vaddr + h.size) later (omega (lt, above, arith))
      by_kind false low later next = next end later lt

  pub by_segments : (end : ℕ) (hs : List SegmentHead) → heads_rise end hs ≡ true
      → find holds (regions_by hs cs) ≡ region_by address len cs (if_holds address len (answer_of (map held_span hs) address))
  by_segments end [] rise = refl
  by_segments end (h ∷ hs) rise =
      let parts = both (rises end h) (heads_rise (end_after end h) hs) rise in
      by_kind (is_memory h) refl parts.1 (λ from e. by_segments from hs e)
    where
      inside : (b : Bool) → is_inside address len h ≡ b → is_memory h ≡ true
          → cond b (option_map (part_region h) (find (has_bytes (place_of address h) len) cs)) None ≡ region_by address len cs (if_holds address len (Some h))
      inside true e memory =
          ap (λ (b : Bool). region_by address len cs (cond b (Some h) None)) (sym (ap (λ (b : Bool). b && is_inside address len h) memory ∙ e))
      inside false e memory =
          ap (λ (b : Bool). region_by address len cs (cond b (Some h) None)) (sym (ap (λ (b : Bool). b && is_inside address len h) memory ∙ e))

      at_test : (b : Bool) → (nat_le h.vaddr address && nat_lt address (h.vaddr + h.size)) ≡ b → is_memory h ≡ true → heads_rise (h.vaddr + h.size) hs ≡ true
          → find holds (regions_by hs cs) ≡ region_by address len cs (if_holds address len (answer_of (map held_span hs) address))
          → find holds (regions_from h hs true)
          ≡ region_by address len cs (if_holds address len (option_map (λ (s : Span SegmentHead). s.leads_to)
          (cond b (Some (record { start = h.vaddr; size = h.size; leads_to = h })) (find (covers address) (map held_span hs)))))
      at_test true e memory later next =
          first_of h hs
          ∙ ap (λ (o : Option Region). option_or (find holds (map (part_region h) cs)) o) (none_later (h.vaddr + h.size) hs later (below_end h.vaddr h.size address e))
          ∙ or_none (find holds (map (part_region h) cs))
          ∙ in_segment h (is_inside address len h) refl cs ∙ inside (is_inside address len h) refl memory
      at_test false e memory later next = not_this h hs (not_covered h.vaddr h.size address len some e) ∙ next

      by_kind : (b : Bool) → is_memory h ≡ b → heads_rise (cond b (h.vaddr + h.size) end) hs ≡ true
          → ((from : ℕ) → heads_rise from hs ≡ true → find holds (regions_by hs cs) ≡ region_by address len cs (if_holds address len (answer_of (map held_span hs) address)))
          → find holds (regions_from h hs b)
          ≡ region_by address len cs (if_holds address len (option_map (λ (s : Span SegmentHead). s.leads_to)
          (cond (nat_le h.vaddr address && nat_lt address (h.vaddr + cond b h.size 0)) (Some (record { start = h.vaddr; size = cond b h.size 0; leads_to = h })) (find (covers address) (map held_span hs)))))
      by_kind true memory later next = at_test (nat_le h.vaddr address && nat_lt address (h.vaddr + h.size)) refl memory later (next (h.vaddr + h.size) later)
      by_kind false memory later next =
          next end later
          ∙ sym (ap (λ (b : Bool). region_by address len cs (if_holds address len (option_map (λ (s : Span SegmentHead). s.leads_to)
          (cond b (Some (record { start = h.vaddr; size = 0; leads_to = h })) (find (covers address) (map held_span hs)))))) (none_covered h.vaddr address))

-- ---- the place of an address
pub bounds : (address len : ℕ) (h : SegmentHead) → head_holds address len h ≡ true → (h.vaddr ≤ address) × (address + len ≤ h.vaddr + h.size)
bounds address len h e =
    let parts = both (nat_le h.vaddr address) (nat_le (address + len) (h.vaddr + h.size)) (both (is_memory h) (is_inside address len h) e).1 in
    (leb-true h.vaddr address parts.0, leb-true (address + len) (h.vaddr + h.size) parts.1)

pub found_lies : (hs : List SegmentHead) (most address : ℕ) (h : SegmentHead) → heads_lie most hs ≡ true → Some h ≡ answer_of (map held_span hs) address → h.place + h.size ≤ most
found_lies [] most address h lie e = absurd (let no : Some h ≡ None = e in cc)
found_lies (x ∷ xs) most address h lie e =
    let parts = both (head_lies most x) (heads_lie most xs) lie in
    by_test (covers address (held_span x)) e parts.0 (found_lies xs most address h parts.1)
  where
    by_test : (b : Bool) → Some h ≡ option_map (λ (s : Span SegmentHead). s.leads_to) (cond b (Some (held_span x)) (find (covers address) (map held_span xs)))
        → head_lies most x ≡ true → (Some h ≡ answer_of (map held_span xs) address → h.place + h.size ≤ most) → h.place + h.size ≤ most
    by_test true f lies later = let same : h ≡ x = cc in leb-true (h.place + h.size) most (ap (head_lies most) same ∙ lies)
    by_test false f lies later = later f

pub placed : (address len : ℕ) (h : SegmentHead) (o : Option SegmentHead) → Some h ≡ o → head_holds address len h ≡ true → Some (place_of address h) ≡ option_map (place_of address) (if_holds address len o)
placed address len h o e t =
    sym (ap (λ (b : Bool). option_map (place_of address) (cond b (Some h) None)) t) ∙ ap (λ (x : Option SegmentHead). option_map (place_of address) (if_holds address len x)) e

pub not_placed : (address len : ℕ) (h : SegmentHead) (o : Option SegmentHead) → Some h ≡ o → head_holds address len h ≡ false → None ≡ option_map (place_of address) (if_holds address len o)
not_placed address len h o e t =
    sym (ap (λ (b : Bool). option_map (place_of address) (cond b (Some h) None)) t) ∙ ap (λ (x : Option SegmentHead). option_map (place_of address) (if_holds address len x)) e

pub no_segment : (address len : ℕ) (o : Option SegmentHead) → None ≡ o → None ≡ option_map (place_of address) (if_holds address len o)
no_segment address len o e = ap (λ (x : Option SegmentHead). option_map (place_of address) (if_holds address len x)) e

-- ---- the bytes at the place
holder : (address len : ℕ) (o : Option SegmentHead) (h : SegmentHead) → if_holds address len o ≡ Some h → is_inside address len h ≡ true
holder address len None h e = absurd (let no : None ≡ Some h = e in cc)
holder address len (Some x) h e = by_test (head_holds address len x) refl e
  where
    by_test : (b : Bool) → head_holds address len x ≡ b → cond b (Some x) None ≡ Some h → is_inside address len h ≡ true
    by_test true t f = let same : x ≡ h = cc in (both (is_memory h) (is_inside address len h) (ap (head_holds address len) (sym same) ∙ t)).1
    by_test false t f = absurd (let no : None ≡ Some h = f in cc)

-- a part that has the bytes at the place
module _ (hs : List SegmentHead) (cs : List Cursor) (address len place : ℕ) (some : 0 < len) (rise : heads_rise 0 hs ≡ true) where
  abbrev found_head : Option SegmentHead
  found_head = if_holds address len (answer_of (map held_span hs) address)

  at_place : (c : Cursor) (o : Option SegmentHead) → found_head ≡ o → Some place ≡ option_map (place_of address) o → find (has_bytes place len) cs ≡ Some c
      → has_bytes place len c ≡ true → option_map (region_bytes address len) (region_by address len cs o) ≡ Some (take len (drop (place - c.place) c.left))
  at_place c None is e found has = absurd (let no : Some place ≡ None = e in cc)
  at_place c (Some h) is e found has =
      let same : place ≡ place_of address h = cc in
      ap (λ (o : Option Cursor). option_map (region_bytes address len) (option_map (part_region h) o)) (ap (λ (q : ℕ). find (has_bytes q len) cs) (sym same) ∙ found)
      ∙ ap (λ (bytes : List ℕ). Some bytes)
      (cut_bytes address len h c some (cut_of address len h c (holder address len (answer_of (map held_span hs) address) h is) (ap (λ (q : ℕ). has_bytes q len c) (sym same) ∙ has)))
      ∙ ap (λ (q : ℕ). Some (take len (drop (q - c.place) c.left))) (sym same)

  pub part_found : (c : Cursor) → Some place ≡ option_map (place_of address) found_head → find (has_bytes place len) cs ≡ Some c → has_bytes place len c ≡ true
      → option_map (region_bytes address len) (find (holds_bytes address len) (regions_by hs cs)) ≡ Some (take len (drop (place - c.place) c.left))
  part_found c e found has = ap (option_map (region_bytes address len)) (by_segments address len some cs 0 hs rise) ∙ at_place c found_head refl e found has

  none_at : (o : Option SegmentHead) → Some place ≡ option_map (place_of address) o → find (has_bytes place len) cs ≡ None → region_by address len cs o ≡ None
  none_at None e none = refl
  none_at (Some h) e none =
      let same : place ≡ place_of address h = cc in
      ap (option_map (part_region h)) (ap (λ (q : ℕ). find (has_bytes q len) cs) (sym same) ∙ none)

  pub none_found : Some place ≡ option_map (place_of address) found_head → find (has_bytes place len) cs ≡ None → find (holds_bytes address len) (regions_by hs cs) ≡ None
  none_found e none = by_segments address len some cs 0 hs rise ∙ none_at found_head e none

pub none_placed : (hs : List SegmentHead) (cs : List Cursor) (address len : ℕ) → 0 < len → heads_rise 0 hs ≡ true
    → None ≡ option_map (place_of address) (if_holds address len (answer_of (map held_span hs) address)) → find (holds_bytes address len) (regions_by hs cs) ≡ None
none_placed hs cs address len some rise e = by_segments address len some cs 0 hs rise ∙ by_head (if_holds address len (answer_of (map held_span hs) address)) e
  where
    by_head : (o : Option SegmentHead) → None ≡ option_map (place_of address) o → region_by address len cs o ≡ None
    by_head None f = refl
    by_head (Some h) f = absurd (let no : None ≡ Some (place_of address h) = f in cc)
