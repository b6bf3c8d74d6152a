-- The signal frame at an address.
use Rattle.std.specs.List.{slice_get}
use Rattle.std.specs.Option.{option_and_then, option_map}
use Rattle.std.proofs.Common.{◌≡◌, ℕ, List, [], get_or, map, Option, Some, None, unwrap_or, refl, sym, ap, ◌∙◌}
use Rattle.std.proofs.lemmas.Option.{slice_get-map, unwrap_or-slice_get}
use Rattle.sf_lookup.specs.declared.span.Span.{Span}
use Rattle.sf_lookup.specs.Span.{answer_of}
use Rattle.sf_modules.specs.Entry.{EntryView}
use Rattle.sf_modules.specs.Module.{ModuleView}
use Rattle.sf_modules.specs.Span.{module_number_at}
use Rattle.signal_frames.specs.declared.frame.SignalFrame.{SignalFrame}
use Rattle.process_walk.specs.declared.signals.OrderedSignals.{OrderedSignals}
use Rattle.process_walk.specs.Process.{given_spans}
use Rattle.process_walk.specs.Signals.{signal_at}

-- where there is no module
pub no_module : (entries : List EntryView) (modules : List ModuleView) (signals : List (List (Span SignalFrame))) (pc : ℕ) → None ≡ module_number_at entries modules pc → None ≡ signal_at entries modules signals pc
unfolding signal_at
no_module entries modules signals pc e = ap (option_and_then (λ (number : ℕ). answer_of (get_or signals number []) pc)) e

-- the answer of a list that may be there
in_list : (o : Option OrderedSignals) (pc : ℕ) → option_and_then (λ (s : OrderedSignals). answer_of (given_spans s) pc) o ≡ answer_of (unwrap_or (option_map given_spans o) []) pc
in_list (Some s) pc = refl
in_list None pc = refl

-- the list at the module's number, if there is one
pub in_module : (entries : List EntryView) (modules : List ModuleView) (ordered : List OrderedSignals) (pc number : ℕ) (o : Option OrderedSignals) → Some number ≡ module_number_at entries modules pc → o ≡ slice_get ordered number
    → option_and_then (λ (s : OrderedSignals). answer_of (given_spans s) pc) o ≡ signal_at entries modules (map given_spans ordered) pc
unfolding signal_at
in_module entries modules ordered pc number o e at =
    in_list o pc
    ∙ ap (λ (x : Option (List (Span SignalFrame))). answer_of (unwrap_or x []) pc) (ap (option_map given_spans) at ∙ sym (slice_get-map given_spans ordered number))
    ∙ ap (λ (spans : List (Span SignalFrame)). answer_of spans pc) (unwrap_or-slice_get (map given_spans ordered) number [])
    ∙ ap (option_and_then (λ (n : ℕ). answer_of (get_or (map given_spans ordered) n []) pc)) e
