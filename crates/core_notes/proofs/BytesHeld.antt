-- Bytes at an address, by the segment that holds them.
use Rattle.std.specs.Prelude.{nat_le, ◌&&◌}
use Rattle.std.specs.List.{filter, find}
use Rattle.std.specs.Option.{option_map}
use Rattle.std.proofs.Common.{◌≡◌, ℕ, ◌+◌, ◌≤◌, Bool, true, false, cond, List, [], ◌∷◌, length, map, Option, Some, None, refl, sym, ap, ◌∙◌, arith}
use Rattle.std.proofs.lemmas.Bool.{false_from_ne_true, le-leb, leb-true}
use Rattle.sf_model.specs.Memory.{Region}
use Rattle.core_notes.specs.Segment.{SegmentView, is_load, segments}
use Rattle.core_notes.specs.Memory.{file_regions, is_holder, region_of, regions_in}
use Rattle.core_notes.specs.MemoryBytes.{bytes_at, holds_bytes, is_bytes_holder, region_bytes}

found_if : (b : Bool) (s : SegmentView) (rest : Option SegmentView) → cond b (Some (region_of s)) (option_map region_of rest) ≡ option_map region_of (cond b (Some s) rest)
found_if true s rest = refl
found_if false s rest = refl

-- the first region that holds the bytes is that of the first segment that does
pub regions_find : (address len : ℕ) (ss : List SegmentView) → find (holds_bytes address len) (regions_in ss) ≡ option_map region_of (find (is_bytes_holder address len) ss)
regions_find address len [] = refl
regions_find address len (s ∷ ss) = one_more (is_load s) (regions_find address len ss)
  where
    one_more : (b : Bool) → find (holds_bytes address len) (regions_in ss) ≡ option_map region_of (find (is_bytes_holder address len) ss)
        → find (holds_bytes address len) (map region_of (cond b (s ∷ filter is_load ss) (filter is_load ss)))
        ≡ option_map region_of (cond (b && holds_bytes address len (region_of s)) (Some s) (find (is_bytes_holder address len) ss))
    one_more true h =
        ap (λ (o : Option Region). cond (holds_bytes address len (region_of s)) (Some (region_of s)) o) h ∙ found_if (holds_bytes address len (region_of s)) s (find (is_bytes_holder address len) ss)
    one_more false h = h

-- what a segment that is found holds
pub record HoldsBytes (address len : ℕ) (s : SegmentView) : Type 0 where
  pub from : s.vaddr ≤ address
  pub to : address + len ≤ s.vaddr + length s.bytes

holds_by : (a b c : Bool) → (a && (b && c)) ≡ true → (b ≡ true) × (c ≡ true)
holds_by true true true h = (refl, refl)
holds_by true true false h = absurd (let no : false ≡ true = h in cc)
holds_by true false c h = absurd (let no : false ≡ true = h in cc)
holds_by false b c h = absurd (let no : false ≡ true = h in cc)

found_passes : (p : SegmentView → Bool) (ss : List SegmentView) (s : SegmentView) → Some s ≡ find p ss → p s ≡ true
found_passes p [] s e = absurd (let no : Some s ≡ None = e in cc)
found_passes p (t ∷ ss) s e = by_test (p t) refl e (found_passes p ss s)
  where
    by_test : (b : Bool) → p t ≡ b → Some s ≡ cond b (Some t) (find p ss) → (Some s ≡ find p ss → p s ≡ true) → p s ≡ true
    by_test true here e later = let same : s ≡ t = cc in ap p same ∙ here
    by_test false here e later = later e

pub holder_holds : (address len : ℕ) (ss : List SegmentView) (s : SegmentView) → Some s ≡ find (is_bytes_holder address len) ss → HoldsBytes address len s
holder_holds address len ss s e =
    let h = holds_by (is_load s) (nat_le s.vaddr address) (nat_le (address + len) (s.vaddr + length s.bytes)) (found_passes (is_bytes_holder address len) ss s e) in
    record { from = leb-true s.vaddr address h.0; to = leb-true (address + len) (s.vaddr + length s.bytes) h.1 }

-- what is there, by what is found
pub held_by : (file : List ℕ) (address len : ℕ) (o : Option SegmentView) → o ≡ find (is_bytes_holder address len) (segments file)
    → option_map (λ (s : SegmentView). region_bytes address len (region_of s)) o ≡ bytes_at (file_regions file) address len
unfolding bytes_at
held_by file address len o e = twice o ∙ ap (λ (o : Option SegmentView). option_map (region_bytes address len) (option_map region_of o)) e ∙ ap (option_map (region_bytes address len)) (sym (regions_find address len (segments file)))
  where
    twice : (o : Option SegmentView) → option_map (λ (s : SegmentView). region_bytes address len (region_of s)) o ≡ option_map (region_bytes address len) (option_map region_of o)
    twice None = refl
    twice (Some s) = refl

-- ---- eight bytes or more, by what holds the first eight of them
holds_fewer : (address len : ℕ) (s : SegmentView) → 8 ≤ len → is_bytes_holder address len s ≡ true → is_holder address s ≡ true
holds_fewer address len s more h = by_kind (is_load s) h
  where
    by_kind : (b : Bool) → (b && holds_bytes address len (region_of s)) ≡ true → (b && holds_bytes address 8 (region_of s)) ≡ true
    by_kind true h =
        let parts = holds_by true (nat_le s.vaddr address) (nat_le (address + len) (s.vaddr + length s.bytes)) h in
        let to = leb-true (address + len) (s.vaddr + length s.bytes) parts.1 in
        ap (λ (b : Bool). b && nat_le (address + 8) (s.vaddr + length s.bytes)) parts.0 ∙ le-leb (address + 8) (s.vaddr + length s.bytes) (omega (to, more, arith))
    by_kind false h = h

not_fewer : (address len : ℕ) (s : SegmentView) → 8 ≤ len → is_holder address s ≡ false → is_bytes_holder address len s ≡ false
not_fewer address len s more h = false_from_ne_true (is_bytes_holder address len s) (λ t. let no : false ≡ true = sym h ∙ holds_fewer address len s more t in cc)

-- what is found of eight bytes says what is found of all
pub by_fewer : (address len : ℕ) (ss : List SegmentView) (o : Option SegmentView) → 8 ≤ len → o ≡ find (is_holder address) ss
    → ((s : SegmentView) → o ≡ Some s → is_bytes_holder address len s ≡ true) → o ≡ find (is_bytes_holder address len) ss
by_fewer address len [] o more e h = e
by_fewer address len (t ∷ ss) o more e h = by_test (is_holder address t) refl e (λ e. by_fewer address len ss o more e h)
  where
    by_test : (b : Bool) → is_holder address t ≡ b → o ≡ cond b (Some t) (find (is_holder address) ss) → (o ≡ find (is_holder address) ss → o ≡ find (is_bytes_holder address len) ss)
        → o ≡ cond (is_bytes_holder address len t) (Some t) (find (is_bytes_holder address len) ss)
    by_test true here e later = e ∙ sym (ap (λ (b : Bool). cond b (Some t) (find (is_bytes_holder address len) ss)) (h t e))
    by_test false here e later = later e ∙ sym (ap (λ (b : Bool). cond b (Some t) (find (is_bytes_holder address len) ss)) (not_fewer address len t more here))
