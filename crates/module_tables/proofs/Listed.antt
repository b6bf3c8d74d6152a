-- The signal frames of functions, one function after the other.
use Rattle.std.proofs.Common.{◌≡◌, inl, inr, ℕ, pos, false, ◌+◌, ◌<◌, ◌≤◌, List, [], ◌∷◌, ◌++◌, length, get_or, take, Option, Some, None, IfSome, refl, sym, ap, subst, ◌∙◌}
use Rattle.std.proofs.lemmas.List.{take_all, take_more}
use Rattle.sf_model.specs.declared.machine.Arch.TheVariants.{Amd64}
use Rattle.sf_model.specs.declared.machine.Key.TheVariants.{A}
use Rattle.frame_functions.specs.Functions.{Function}
use Rattle.sf_lookup.specs.declared.span.Span.{Span}
use Rattle.signal_frames.specs.declared.frame.SignalFrame.{SignalFrame}
use Rattle.module_tables.specs.Signals.{AreSignals, HasNoSignalFrame, HasSignalFrame, IsSignalOf, signal_span}

-- ---- one function more
module _ (f : Function) (s : Span SignalFrame) (is : IsSignalOf f s) where
  another : (fs : List Function) (signals : List (Span SignalFrame)) → AreSignals fs signals → AreSignals (fs ++ f ∷ []) (signals ++ s ∷ [])
  another [] signals h = inr (record { signal = s; of = is; later = []; after = refl; are = ap (λ (ss : List (Span SignalFrame)). ss ++ s ∷ []) h })
  another (g ∷ fs) signals (inl (without, h)) = inl (without, another fs signals h)
  another (g ∷ fs) signals (inr h) =
      inr (record { signal = h.signal; of = h.of; later = h.later ++ s ∷ []; after = another fs h.later h.after; are = ap (λ (ss : List (Span SignalFrame)). ss ++ s ∷ []) h.are })

module _ (f : Function) (without : HasNoSignalFrame f) where
  passed : (fs : List Function) (signals : List (Span SignalFrame)) → AreSignals fs signals → AreSignals (fs ++ f ∷ []) signals
  passed [] signals h = inl (without, h)
  passed (g ∷ fs) signals (inl (first_without, h)) = inl (first_without, passed fs signals h)
  passed (g ∷ fs) signals (inr h) = inr (record { signal = h.signal; of = h.of; later = h.later; after = passed fs h.later h.after; are = h.are })

-- ---- the first functions
abbrev no_function : Function
no_function = record {
  arch = Amd64;
  start = 0;
  size = 0;
  column = 0;
  signal = false;
  key = A;
  code = 0;
  factor = pos 0;
  initial = [];
  own = [];
  origin = record { item = 0; section = 0; place = 0 };
}

-- the function of a number
abbrev function_at : List Function → (k : ℕ) → Function
function_at fs k = get_or fs k no_function

next_is : (fs : List Function) (k : ℕ) → k < length fs → take k fs ++ function_at fs k ∷ [] ≡ take (k + 1) fs
next_is fs k lt = sym (take_more fs k no_function lt)

pub next_has : (fs : List Function) (k : ℕ) (found : Option (Span SignalFrame)) (s : Span SignalFrame) (before after : List (Span SignalFrame)) → k < length fs → found ≡ Some s → ((d : Function) → IfSome found (IsSignalOf (get_or fs k d)))
    → after ≡ before ++ s ∷ [] → AreSignals (take k fs) before → AreSignals (take (k + 1) fs) after
next_has fs k found s before after lt is has grown h =
    subst (λ (gs : List Function). AreSignals gs after) (next_is fs k lt)
    (subst (AreSignals (take k fs ++ function_at fs k ∷ [])) (sym grown) (another (function_at fs k) s (subst (λ (o : Option (Span SignalFrame)). IfSome o (IsSignalOf (function_at fs k))) is (has no_function)) (take k fs) before h))

pub next_has_none : (fs : List Function) (k : ℕ) (found : Option (Span SignalFrame)) (signals : List (Span SignalFrame)) → k < length fs → found ≡ None
    → ((d : Function) (frame : SignalFrame) → HasSignalFrame (get_or fs k d) frame → found ≡ Some (signal_span (get_or fs k d) frame))
    → AreSignals (take k fs) signals → AreSignals (take (k + 1) fs) signals
next_has_none fs k found signals lt is none h =
    subst (λ (gs : List Function). AreSignals gs signals) (next_is fs k lt)
    (passed (function_at fs k) (λ frame has. let never : None ≡ Some (signal_span (function_at fs k) frame) = sym is ∙ none no_function frame has in cc) (take k fs) signals h)

pub all_signals : (fs : List Function) (k : ℕ) (signals : List (Span SignalFrame)) → length fs ≤ k → AreSignals (take k fs) signals → AreSignals fs signals
all_signals fs k signals le h = subst (λ (gs : List Function). AreSignals gs signals) (take_all k fs le) h
