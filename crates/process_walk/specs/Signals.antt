-- The signal frames of a process's modules (DWARF 5, section 6.4.1; GNU's augmentation letter `S`; Linux core files, NT_FILE).
use Rattle.std.specs.Prelude.{ℕ, List, [], get_or, Option}
use Rattle.std.specs.Option.{option_and_then}
use Rattle.sf_lookup.specs.declared.span.Span.{Span}
use Rattle.sf_lookup.specs.Span.{answer_of}
use Rattle.sf_modules.specs.Entry.{EntryView}
use Rattle.sf_modules.specs.Module.{ModuleView}
use Rattle.sf_modules.specs.Span.{module_number_at}
use Rattle.signal_frames.specs.declared.frame.SignalFrame.{SignalFrame}

-- the signal frame at an address, by the list of each module: that of the first function that has it, in the list of the module there
unfoldable pub signal_at : List EntryView → List ModuleView → (signals : List (List (Span SignalFrame))) → (pc : ℕ) → Option SignalFrame
signal_at entries modules signals pc = option_and_then (λ (number : ℕ). answer_of (get_or signals number []) pc) (module_number_at entries modules pc)
