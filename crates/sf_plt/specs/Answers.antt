-- The section that linking with procedure linkage tables returns, or its fault (GNU SFrame specification, Version 2; DWARF 5, section
-- 6.4).
use Rattle.std.specs.Prelude.{◌≡◌, ◌⊎◌, ℕ, not, List, length, map, Option, None, Ok, Err}
use Rattle.std.specs.Option.{option_map}
use Rattle.std.specs.List.{filter}
use Rattle.sf_model.specs.declared.function.Func.{Func}
use Rattle.sf_model.specs.declared.machine.Arch.{Arch}
use Rattle.sf_model.specs.declared.omission.Omitted.{Omitted}
use Rattle.sf_model.specs.declared.omission.Span.{Span}
use Rattle.sf_model.specs.declared.recovery.Regs.{Regs}
use Rattle.sf_model.specs.Memory.{Region}
use Rattle.sf_model.specs.Section.{Section}
use Rattle.sf_model.specs.Tight.{Narrow, Tight}
use Rattle.sf_model.specs.Walk.{ThreadState, recover_by_rows, section_walk}
use Rattle.sf_write.specs.Section.{table_of}
use Rattle.sf_express.specs.Alike.{defined}
use Rattle.sf_asm.specs.Described.{Describe}
use Rattle.sf_asm.specs.declared.fault.LinkFault.{LinkFault}
use Rattle.sf_asm.specs.declared.fault.LinkFault.TheVariants.{NoMemory}
use Rattle.frame_functions.specs.ReadFunction.{omitted_of}
use Rattle.frame_functions.specs.Functions.{Function}
use Rattle.sf_asm.specs.Functions.{Object}
use Rattle.sf_asm.specs.Inputs.{HaveMachine, first_item}
use Rattle.frame_functions.specs.Kept.{read_of, kept_functions, omitted_functions}
use Rattle.frame_functions.specs.Descriptions.{AreByStart}
use Rattle.sf_plt.specs.Linking.{LinksPlts, plt_link_fault}
use Rattle.sf_plt.specs.Plt.{is_plt, plt_functions}
use Rattle.sf_plt.specs.Written.{recovered_with_plts, walk_with_plts, written_functions}

-- At each address, with all registers and all memory, these functions recover what is recovered with procedure linkage tables; also the
-- address of a value that can't be read is the same.
abbrev pub RecoversWithPlts : List Func → List Function → Type 0
RecoversWithPlts written functions = (address : ℕ) (regs : Regs) (memory : List Region)
    → option_map defined (recover_by_rows written memory address regs) ≡ recovered_with_plts functions memory address regs

-- Every walk over these functions lists the frames of the walk by what is recovered with procedure linkage tables, and stops alike.
abbrev pub WalksWithPlts : List Func → List Function → Type 0
WalksWithPlts written functions = (thread : ThreadState) (memory : List Region) (depth : ℕ)
    → section_walk written thread memory depth ≡ walk_with_plts functions thread memory depth

-- the function's start, size and origin
abbrev pub plt_span : Function → Span
plt_span f = record { start = f.start; size = f.size; origin = f.origin }

-- the functions that are no procedure linkage tables
abbrev pub others_in : List Function → List Function
others_in functions = filter (λ (f : Function). not (is_plt f)) functions

-- These bytes are the section of inputs after an item of this machine, or of inputs alone. The inputs describe functions, nothing is
-- refused, and all items have one machine. The bytes are a section of the functions that are written, by rising start, without gaps and
-- with the least widths. It recovers what is recovered with procedure linkage tables, and it is walked alike. This number of functions
-- is kept, these are omitted, and these are procedure linkage tables.
pub record IsPltLinked (before : Option Arch) (objects : List Object) (at : ℕ) (section : List ℕ) (kept : ℕ) (omitted : List Omitted) (plts : List Span) : Type 0 where
  pub functions : List Function
  pub are : Describe (first_item before) objects (Ok functions)
  pub arch : Arch
  pub machine : HaveMachine before objects arch
  pub sorted : List Function
  pub by_start : AreByStart functions sorted
  pub accepted : plt_link_fault at sorted ≡ None
  pub is : Section section at (table_of arch (written_functions sorted))
  pub recovers : RecoversWithPlts (written_functions sorted) functions
  pub walks : WalksWithPlts (written_functions sorted) functions
  pub tight : Tight section at (table_of arch (written_functions sorted))
  pub narrow : Narrow section (table_of arch (written_functions sorted))
  pub kept_is : kept ≡ length (kept_functions sorted)
  pub omitted_are : omitted ≡ omitted_of (map read_of (others_in (omitted_functions sorted)))
  pub plts_are : plts ≡ map plt_span (plt_functions sorted)

-- the same section, and these are the functions that SFrame can't express, as their records describe them
pub record IsPltLinkedWith (before : Option Arch) (objects : List Object) (at : ℕ) (section : List ℕ) (kept : ℕ) (omitted : List Omitted) (plts : List Span) (descriptions : List Function) : Type 0 where
  pub linked : IsPltLinked before objects at section kept omitted plts
  pub descriptions_are : descriptions ≡ omitted_functions linked.sorted

-- the fault is the first one, or memory ran out
abbrev pub IsFirstPltLinked : (before : Option Arch) → List Object → (at : ℕ) → LinkFault → Type 0
IsFirstPltLinked before objects at fault = (fault ≡ NoMemory) ⊎ LinksPlts before objects at (Err fault)
