use Rattle.std.proofs.Common.{◌^◌, List, map, ap, subst, ◌∙◌, arith}
use Rattle.sf_lookup.specs.declared.span.Span.{Span}
use Rattle.sf_lookup.specs.Spans.{InOrder}
use Rattle.core_parts.specs.declared.memory.Block.{Block}
use Rattle.core_parts.specs.declared.segment.SegmentHead.{SegmentHead}
use Rattle.core_parts.specs.Read.{eight_span, first_span}
use Rattle.core_parts.proofs.PartReads.{lie_longer}
use Rattle.core_parts.proofs.memory.PartMemory.new.Goals as goal

pub invariant_of-result-clause-lie : goal.invariant_of-result-clause-lie
invariant_of-result-clause-lie c = lie_longer c.args.len (2 ^ 64) c.args.heads.now (omega (c.ranges.len.fits, arith)) c.requires.lie

pub invariant_of-result-clause-segments_ordered : goal.invariant_of-result-clause-segments_ordered
invariant_of-result-clause-segments_ordered c =
    subst (λ (spans : List (Span SegmentHead)). InOrder c.in_ok-segments.segments spans) (c.deref.ensures.value ∙ c.in_ok-held_spans.ensures) c.in_ok-segments.ensures

pub invariant_of-result-clause-firsts_ordered : goal.invariant_of-result-clause-firsts_ordered
invariant_of-result-clause-firsts_ordered c =
    subst (λ (spans : List (Span Block)). InOrder c.in_ok-firsts.firsts spans) (c.deref-3.ensures.value ∙ c.in_ok-first_spans.ensures ∙ ap (map first_span) c.deref-2.ensures.value) c.in_ok-firsts.ensures

pub invariant_of-result-clause-eights_ordered : goal.invariant_of-result-clause-eights_ordered
invariant_of-result-clause-eights_ordered c =
    subst (λ (spans : List (Span Block)). InOrder c.in_ok-eights.eights spans) (c.deref-5.ensures.value ∙ c.in_ok-eight_spans.ensures ∙ ap (map eight_span) c.deref-4.ensures.value) c.in_ok-eights.ensures
