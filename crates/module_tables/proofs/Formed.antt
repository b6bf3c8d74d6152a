-- The table of a file that is linked as an ELF file.
use Rattle.std.proofs.Common.{◌≡◌, ℕ, List, [], ◌∷◌, None}
use Rattle.sf_model.specs.declared.form.Form.{Form}
use Rattle.sf_model.specs.declared.form.Form.TheVariants.{Elf, Bare}
use Rattle.sf_model.specs.declared.omission.Omitted.{Omitted}
use Rattle.sf_model.specs.declared.omission.Span.{Span as span}
use Rattle.sf_asm.specs.Functions.{Object}
use Rattle.frame_functions.specs.Kept.{omitted_functions}
use Rattle.sf_lookup.specs.declared.span.Span.{Span}
use Rattle.sf_plt.specs.Answers.{IsPltLinked}
use Rattle.signal_frames.specs.declared.frame.SignalFrame.{SignalFrame}
use Rattle.module_tables.specs.Signals.{AreSignals}
use Rattle.module_tables.specs.Table.{IsModuleTable}

-- an input of a form
abbrev pub formed : Form → (bytes : List ℕ) → (base : ℕ) → Object
formed form bytes base = record { form = form; bytes = bytes; base = base }

pub table_of : (form : Form) (file : List ℕ) (base at : ℕ) (section : List ℕ) (kept : ℕ) (omitted : List Omitted) (plts : List span) (signals : List (Span SignalFrame)) → form ≡ Elf
    → (linked : IsPltLinked None (formed form file base ∷ []) at section kept omitted plts) → AreSignals (omitted_functions linked.sorted) signals → IsModuleTable file base at section signals
table_of Elf file base at section kept omitted plts signals is linked are = record { kept = kept; omitted = omitted; plts = plts; linked = linked; signals_are = are }
table_of (Bare arch) file base at section kept omitted plts signals is linked are = absurd cc
