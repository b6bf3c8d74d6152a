-- Overlaps among functions by rising start, one after the other.
use Rattle.std.specs.Prelude.{not}
use Rattle.std.specs.Option.{option_map}
use Rattle.std.specs.List.{filter}
use Rattle.std.proofs.Common.{◌≡◌, ℕ, Bool, true, false, cond, eqb, List, [], ◌∷◌, Option, Some, None, refl, sym, ap, ◌∙◌}
use Rattle.sf_model.specs.declared.omission.Span.{Span}
use Rattle.sf_functions.specs.Neighbours.{first_overlap}
use Rattle.sf_asm.specs.declared.fault.GatherFault.{GatherFault}
use Rattle.sf_asm.specs.declared.overlaps.Overlaps.{Overlaps}
use Rattle.sf_asm.specs.Linking.{has_bytes, or_later, overlap, overlap_after, overlap_in, overlap_fault, overlap_left, overlap_with, span_size, span_start}

pub overlap_begins : (spans : List Span) → overlap_in spans ≡ overlap_after None spans
unfolding overlap_in
overlap_begins spans = refl

-- a function without bytes is passed over
pub overlap_passes : (before : Option Span) (span : Span) (spans : List Span) → span.size ≡ 0 → overlap_after before (span ∷ spans) ≡ overlap_after before spans
overlap_passes before span spans e = rw e refl

some_bytes : (size : ℕ) → (eqb size 0 ≡ false) → not (eqb size 0) ≡ true
some_bytes size e = ap not e

-- the function behind the one before
pub overlap_goes_on : (before : Option Span) (span : Span) (spans : List Span) → eqb span.size 0 ≡ false → overlap_with before span ≡ None → overlap_after before (span ∷ spans) ≡ overlap_after (Some span) spans
overlap_goes_on None span spans some e = rw some refl
overlap_goes_on (Some before) span spans some e = rw some (at_test (overlap (before, span)) refl e)
  where
    at_test : (b : Bool) → overlap (before, span) ≡ b → cond b (Some (overlap_fault (before, span))) None ≡ None
        → cond (overlap (before, span)) (Some (before, span)) (first_overlap span_start span_size (span ∷ filter has_bytes spans)) ≡ first_overlap span_start span_size (span ∷ filter has_bytes spans)
    at_test true t e = cc
    at_test false t e = rw t refl

pub overlap_ends : (before : Option Span) (span : Span) (spans : List Span) (fault : GatherFault) → eqb span.size 0 ≡ false → overlap_with before span ≡ Some fault → option_map overlap_fault (overlap_after before (span ∷ spans)) ≡ Some fault
overlap_ends None span spans fault some e = cc
overlap_ends (Some before) span spans fault some e = rw some (at_test (overlap (before, span)) refl e)
  where
    at_test : (b : Bool) → overlap (before, span) ≡ b → cond b (Some (overlap_fault (before, span))) None ≡ Some fault
        → option_map overlap_fault (cond (overlap (before, span)) (Some (before, span)) (first_overlap span_start span_size (span ∷ filter has_bytes spans))) ≡ Some fault
    at_test true t e = rw t e
    at_test false t e = cc

pub no_overlap_left : (before : Option Span) → overlap_after before [] ≡ None
no_overlap_left None = refl
no_overlap_left (Some before) = refl

-- ---- what was seen so far
nothing_later : {F : Type 0} (first : Option F) → or_later first None ≡ first
nothing_later None = refl
nothing_later (Some fault) = refl

pub first_seen : (seen : Overlaps) → seen.first ≡ overlap_left seen []
first_seen seen = sym (ap (λ (pair : Option (Span × Span)). or_later seen.first (option_map overlap_fault pair)) (no_overlap_left seen.before) ∙ nothing_later seen.first)

pub next_is_seen : (seen : Overlaps) (span : Span) (spans : List Span) (found : Option GatherFault) → seen.first ≡ None → eqb span.size 0 ≡ false → found ≡ overlap_with seen.before span
    → overlap_left seen (span ∷ spans) ≡ overlap_left (record { before = Some span; first = found }) spans
next_is_seen seen span spans None none some is = rw none (ap (option_map overlap_fault) (overlap_goes_on seen.before span spans some (sym is)))
next_is_seen seen span spans (Some fault) none some is = rw none (overlap_ends seen.before span spans fault some (sym is))
