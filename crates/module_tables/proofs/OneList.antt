-- Functions have one list of signal frames.
use Rattle.std.proofs.Common.{◌≡◌, inl, inr, List, [], ◌∷◌, Option, Some, None, IfSome, refl, sym, ap, ◌∙◌}
use Rattle.frame_functions.specs.Functions.{Function}
use Rattle.frame_functions.specs.Kept.{facts_of}
use Rattle.sf_lookup.specs.declared.span.Span.{Span}
use Rattle.signal_frames.specs.declared.frame.SignalFrame.{SignalFrame}
use Rattle.signal_frames.proofs.Deciding.{Decided, decide}
use Rattle.module_tables.specs.Signals.{AreSignals, HasSignalFrame, IsSignalOf, signal_span}

-- ---- one function
abbrev decided : (f : Function) → Decided f.arch (facts_of f) f.initial f.own
decided f = decide f.arch (facts_of f) f.initial f.own

one_frame : (f : Function) (a b : SignalFrame) → HasSignalFrame f a → HasSignalFrame f b → a ≡ b
one_frame f a b has_a has_b = let same : Some a ≡ Some b = sym ((decided f).only a has_a) ∙ (decided f).only b has_b in cc

one_signal : (f : Function) (s t : Span SignalFrame) → IsSignalOf f s → IsSignalOf f t → s ≡ t
one_signal f s t p q = p.is ∙ ap (signal_span f) (one_frame f s.leads_to t.leads_to p.has q.has) ∙ sym q.is

-- ---- all functions
pub one_signals : (functions : List Function) (p q : List (Span SignalFrame)) → AreSignals functions p → AreSignals functions q → p ≡ q
one_signals [] p q a b = a ∙ sym b
one_signals (f ∷ fs) p q (inl (without, a)) (inl (also_without, b)) = one_signals fs p q a b
one_signals (f ∷ fs) p q (inl (without, a)) (inr b) = absurd (without b.signal.leads_to b.of.has)
one_signals (f ∷ fs) p q (inr a) (inl (without, b)) = absurd (without a.signal.leads_to a.of.has)
one_signals (f ∷ fs) p q (inr a) (inr b) =
    a.are ∙ ap (λ (s : Span SignalFrame). s ∷ a.later) (one_signal f a.signal b.signal a.of b.of)
    ∙ ap (λ (ss : List (Span SignalFrame)). b.signal ∷ ss) (one_signals fs a.later b.later a.after b.after) ∙ sym b.are

pub some_signals : (functions : List Function) → (signals : List (Span SignalFrame)) × AreSignals functions signals
some_signals [] = ([], refl)
some_signals (f ∷ fs) = by_frame (decided f).found (decided f).is (decided f).only (some_signals fs)
  where
    by_frame : (found : Option SignalFrame) → IfSome found (HasSignalFrame f) → ((frame : SignalFrame) → HasSignalFrame f frame → found ≡ Some frame)
        → ((signals : List (Span SignalFrame)) × AreSignals fs signals) → (signals : List (Span SignalFrame)) × AreSignals (f ∷ fs) signals
    by_frame (Some frame) has only later =
        (signal_span f frame ∷ later.0, inr (record { signal = signal_span f frame; of = record { has = has; is = refl }; later = later.0; after = later.1; are = refl }))
    by_frame None has only later = (later.0, inl ((λ frame is. let never : None ≡ Some frame = only frame is in cc), later.1))
