-- Segments as spans of the addresses from which on they hold eight bytes: the first that has an address is the first that holds
-- the bytes there.
use Rattle.std.specs.Prelude.{nat_le, nat_lt, ◌&&◌}
use Rattle.std.specs.List.{find}
use Rattle.std.specs.Option.{option_map}
use Rattle.std.proofs.Common.{◌≡◌, ℕ, suc, ◌+◌, ◌-◌, ◌<◌, ◌≤◌, Bool, true, false, cond, List, [], ◌∷◌, ◌++◌, length, get_or, take, Some, refl, sym, ap, ◌∙◌, arith, inl, inr}
use Rattle.std.proofs.lemmas.Bool.{cases_lt, le-leb, le-ltb, lt-leb, lt-ltb}
use Rattle.std.proofs.lemmas.List.{length-take-le, take_all, take_more}
use Rattle.elf_read.specs.Sections.{segment_count}
use Rattle.sf_lookup.specs.declared.span.Span.{Span}
use Rattle.sf_lookup.specs.Span.{answer_of, covers}
use Rattle.core_notes.specs.Memory.{holding, holdings, is_holder}
use Rattle.core_notes.specs.Segment.{SegmentView, is_load, segment_of, segments}
use Rattle.core_notes.proofs.Loads.{none_covered}
use Rattle.core_notes.proofs.Segments.{segment_at_number, segments-length}

-- ---- one segment more
holdings-append : (first : ℕ) (ss : List SegmentView) (s : SegmentView) → holdings first (ss ++ s ∷ []) ≡ holdings first ss ++ holding (first + length ss) s ∷ []
holdings-append first [] s = ap (λ (n : ℕ). holding n s ∷ []) (omega arith)
holdings-append first (x ∷ ss) s =
    let next : first + 1 + length ss ≡ first + suc (length ss) = omega arith in
    ap (λ (ys : List (Span ℕ)). holding first x ∷ ys) (holdings-append (first + 1) ss s ∙ ap (λ (n : ℕ). holdings (first + 1) ss ++ holding n s ∷ []) next)

pub one_more : (file : List ℕ) (i : ℕ) (s : SegmentView) (spans new : List (Span ℕ)) (size : ℕ) → i < segment_count file → s ≡ segment_of file i → size ≡ (holding i s).size
    → new ≡ spans ++ record { start = s.vaddr; size = size; leads_to = i } ∷ [] → spans ≡ holdings 0 (take i (segments file)) → new ≡ holdings 0 (take (i + 1) (segments file))
one_more file i s spans new size lt is sized grown h =
    let ss = segments file in
    let len = segments-length file in
    let within : i < length (segments file) = omega (lt, len, arith) in
    let all = length-take-le i ss (omega (within, arith)) in
    let count : 0 + length (take i (segments file)) ≡ i = omega (all, arith) in
    let whole : take (i + 1) (segments file) ≡ take i (segments file) ++ s ∷ [] =
    take_more ss i s within ∙ ap (λ (x : SegmentView). take i ss ++ x ∷ []) (segment_at_number file i s lt ∙ sym is) in
    grown ∙ ap (λ (n : ℕ). spans ++ record { start = s.vaddr; size = n; leads_to = i } ∷ []) sized
    ∙ ap (λ (xs : List (Span ℕ)). xs ++ holding i s ∷ []) h
    ∙ ap (λ (n : ℕ). holdings 0 (take i ss) ++ holding n s ∷ []) (sym count)
    ∙ sym (holdings-append 0 (take i ss) s) ∙ ap (holdings 0) (sym whole)

pub all_held : (file : List ℕ) (i : ℕ) (spans : List (Span ℕ)) → segment_count file ≤ i → spans ≡ holdings 0 (take i (segments file)) → spans ≡ holdings 0 (segments file)
all_held file i spans le h = let len = segments-length file in h ∙ ap (holdings 0) (take_all i (segments file) (omega (len, le, arith)))

-- ---- the addresses of a segment
pub held : (start len address : ℕ) → (nat_le start address && nat_lt address (start + (len - 7))) ≡ (nat_le start address && nat_le (address + 8) (start + len))
held start len address =
    elim (cases_lt address start) [
      | inl before ↦ ap (λ (b : Bool). b && nat_lt address (start + (len - 7))) (lt-leb start address before) ∙ sym (ap (λ (b : Bool). b && nat_le (address + 8) (start + len)) (lt-leb start address before))
      | inr from ↦
          elim (cases_lt address (start + (len - 7))) [
            | inl has ↦ ap (λ (b : Bool). nat_le start address && b) (lt-ltb address (start + (len - 7)) has ∙ sym (le-leb (address + 8) (start + len) (omega (has, from, arith))))
            | inr after ↦ ap (λ (b : Bool). nat_le start address && b) (le-ltb address (start + (len - 7)) after ∙ sym (lt-leb (address + 8) (start + len) (omega (after, arith))))
          ]
    ]

covers-holding : (address number : ℕ) (s : SegmentView) → covers address (holding number s) ≡ is_holder address s
covers-holding address number s = by_kind (is_load s)
  where
    by_kind : (b : Bool) → (nat_le s.vaddr address && nat_lt address (s.vaddr + cond b (length s.bytes - 7) 0)) ≡ (b && (nat_le s.vaddr address && nat_le (address + 8) (s.vaddr + length s.bytes)))
    by_kind true = held s.vaddr (length s.bytes) address
    by_kind false = none_covered s.vaddr address

-- ---- what the first span leads to
-- segments whose numbers begin at `first` are those of a numbering
abbrev pub AreNumbered : (of : ℕ → SegmentView) (first : ℕ) → List SegmentView → Type 0
AreNumbered of first ss = (k : ℕ) (d : SegmentView) → k < length ss → get_or ss k d ≡ of (first + k)

later_numbered : (of : ℕ → SegmentView) (first : ℕ) (s : SegmentView) (ss : List SegmentView) → AreNumbered of first (s ∷ ss) → AreNumbered of (first + 1) ss
later_numbered of first s ss h k d lt = h (suc k) d (omega (lt, arith)) ∙ ap of (omega arith)

answers : (of : ℕ → SegmentView) (first : ℕ) (ss : List SegmentView) (address : ℕ) → AreNumbered of first ss → option_map of (answer_of (holdings first ss) address) ≡ find (is_holder address) ss
answers of first [] address h = refl
answers of first (s ∷ ss) address h =
    ap (λ (b : Bool). option_map of (option_map (λ (x : Span ℕ). x.leads_to) (cond b (Some (holding first s)) (find (covers address) (holdings (first + 1) ss))))) (covers-holding address first s)
    ∙ at_test (is_holder address s) (answers of (first + 1) ss address (later_numbered of first s ss h))
  where
    here : s ≡ of first
    here = h 0 s (omega arith) ∙ ap of (omega arith)

    at_test : (b : Bool) → option_map of (answer_of (holdings (first + 1) ss) address) ≡ find (is_holder address) ss
        → option_map of (option_map (λ (x : Span ℕ). x.leads_to) (cond b (Some (holding first s)) (find (covers address) (holdings (first + 1) ss)))) ≡ cond b (Some s) (find (is_holder address) ss)
    at_test true later = ap (λ (x : SegmentView). Some x) (sym here)
    at_test false later = later

pub first_holds : (file : List ℕ) (address : ℕ) → option_map (segment_of file) (answer_of (holdings 0 (segments file)) address) ≡ find (is_holder address) (segments file)
first_holds file address = answers (segment_of file) 0 (segments file) address (λ k d lt. let len = segments-length file in segment_at_number file k d (omega (lt, len, arith)) ∙ ap (segment_of file) (omega arith))
