-- The signal frames of functions that SFrame can't express (GNU's augmentation letter `S`; DWARF 5, sections 6.4.1 and 6.4.2).
use Rattle.std.specs.Prelude.{◌≡◌, ◌⊎◌, List, [], ◌∷◌}
use Rattle.frame_functions.specs.Functions.{Function}
use Rattle.frame_functions.specs.Kept.{facts_of}
use Rattle.sf_lookup.specs.declared.span.Span.{Span}
use Rattle.signal_frames.specs.declared.frame.SignalFrame.{SignalFrame}
use Rattle.signal_frames.specs.SignalFrame.{IsSignalFrame}

-- the function has this signal frame at each of its addresses
abbrev pub HasSignalFrame : Function → SignalFrame → Type 0
HasSignalFrame f frame = IsSignalFrame f.arch (facts_of f) f.initial f.own frame

-- it has none
abbrev pub HasNoSignalFrame : Function → Type 0
HasNoSignalFrame f = (frame : SignalFrame) → HasSignalFrame f frame → ⊥

-- the addresses of a function, with its signal frame
abbrev pub signal_span : Function → SignalFrame → Span SignalFrame
signal_span f frame = record { start = f.start; size = f.size; leads_to = frame }

-- the addresses are those of the function, and the signal frame is its
pub record IsSignalOf (f : Function) (signal : Span SignalFrame) : Type 0 where
  pub has : HasSignalFrame f signal.leads_to
  pub is : signal ≡ signal_span f signal.leads_to

-- the first of these signal frames is the function's, and this holds for those after it
pub record BeginWith (f : Function) (HoldsAfter : List (Span SignalFrame) → Type 0) (signals : List (Span SignalFrame)) : Type 0 where
  pub signal : Span SignalFrame
  pub of : IsSignalOf f signal
  pub later : List (Span SignalFrame)
  pub after : HoldsAfter later
  pub are : signals ≡ signal ∷ later

-- the signal frames of functions, in their order: that of each function that has one, and no other
abbrev pub AreSignals : List Function → List (Span SignalFrame) → Type 0
AreSignals [] signals = signals ≡ []
AreSignals (f ∷ functions) signals = (HasNoSignalFrame f × AreSignals functions signals) ⊎ BeginWith f (AreSignals functions) signals
