-- The table of one file of a process at the address at which it was mapped: its section, and the signal frames of the functions that the
-- section can't express (ELF64 gABI, "Program Header", "Base Address"; LSB Core, "The .eh_frame section"; GNU SFrame specification,
-- Version 2).
use Rattle.std.specs.Prelude.{ℕ, List, [], ◌∷◌, None}
use Rattle.sf_model.specs.declared.form.Form.TheVariants.{Elf}
use Rattle.sf_model.specs.declared.omission.Omitted.{Omitted}
use Rattle.sf_model.specs.declared.omission.Span.{Span as span}
use Rattle.sf_asm.specs.Functions.{Object}
use Rattle.frame_functions.specs.Kept.{omitted_functions}
use Rattle.sf_lookup.specs.declared.span.Span.{Span}
use Rattle.sf_plt.specs.Answers.{IsPltLinked}
use Rattle.signal_frames.specs.declared.frame.SignalFrame.{SignalFrame}
use Rattle.module_tables.specs.Signals.{AreSignals}

-- an ELF file whose addresses are this far up
abbrev pub file_at : (file : List ℕ) → (base : ℕ) → Object
file_at file base = record { form = Elf; bytes = file; base = base }

-- This is the table of the file at the base: the section is that of all its functions that can be written, with the plain lazy procedure
-- linkage tables, and the signal frames are those of the functions that can't be expressed.
pub record IsModuleTable (file : List ℕ) (base at : ℕ) (section : List ℕ) (signals : List (Span SignalFrame)) : Type 0 where
  pub kept : ℕ
  pub omitted : List Omitted
  pub plts : List span
  pub linked : IsPltLinked None (file_at file base ∷ []) at section kept omitted plts
  pub signals_are : AreSignals (omitted_functions linked.sorted) signals
