-- What a process that was put in order shows (Linux core files, NT_FILE).
use Rattle.std.specs.Prelude.{Bool, List, map}
use Rattle.sf_lookup.specs.declared.span.Span.{Span}
use Rattle.sf_modules.specs.Entry.{EntryView}
use Rattle.sf_modules.specs.Module.{ModuleView}
use Rattle.sf_modules.specs.Views as modules
use Rattle.signal_frames.specs.declared.frame.SignalFrame.{SignalFrame}
use Rattle.process_walk.specs.declared.process.Process.{Process}
use Rattle.process_walk.specs.declared.signals.OrderedSignals.{OrderedSignals}

-- the entries of its note on mapped files
abbrev pub entries_in : Process → List EntryView
entries_in p = modules.entry_views p.modules

-- its modules
abbrev pub modules_in : Process → List ModuleView
modules_in p = modules.modules_in p.modules

-- the functions of a module that have a signal frame
abbrev pub given_spans : OrderedSignals → List (Span SignalFrame)
given_spans s = s.given.now

-- those of each module, by its number
abbrev pub signals_in : Process → List (List (Span SignalFrame))
signals_in p = map given_spans p.signals.items

-- whether no thread of it has a mask
abbrev pub is_unmasked : Process → Bool
is_unmasked p = p.is_unmasked
