-- What calls answer, by the definitions of what inputs come to.
use Rattle.std.specs.Prelude.{◌≡◌, ◌⊎◌, ℕ, List, [], ◌∷◌, map, length, Option, None, Ok, Err}
use Rattle.sf_model.specs.declared.machine.Arch.{Arch}
use Rattle.sf_model.specs.declared.function.Func.{Func}
use Rattle.sf_model.specs.declared.omission.Omitted.{Omitted}
use Rattle.sf_model.specs.declared.omission.Span.{Span}
use Rattle.sf_model.specs.Function.{AreWritable}
use Rattle.sf_model.specs.Tight.{Narrow, Tight}
use Rattle.sf_write.specs.Section.{table_of}
use Rattle.sf_asm.specs.Described.{Describe}
use Rattle.frame_functions.specs.declared.read_function.ReadFunction.{ReadFunction}
use Rattle.sf_asm.specs.declared.fault.GatherFault.{GatherFault}
use Rattle.sf_asm.specs.declared.fault.GatherFault.TheVariants as gather
use Rattle.sf_asm.specs.declared.fault.LinkFault.{LinkFault}
use Rattle.sf_asm.specs.declared.fault.LinkFault.TheVariants as link
use Rattle.frame_functions.specs.ReadFunction.{kept_by_item, kept_of, omitted_of, spans_of}
use Rattle.sf_asm.specs.Faithful.{Faithful}
use Rattle.frame_functions.specs.Functions.{Function}
use Rattle.sf_asm.specs.Functions.{Object}
use Rattle.sf_asm.specs.Inputs.{HaveMachine, first_item}
use Rattle.frame_functions.specs.Kept.{read_of}
use Rattle.frame_functions.specs.Order.{InOrder}
use Rattle.sf_asm.specs.Linking.{Gathers, Links, link_fault}

-- the functions of all inputs, after an item of this machine or of none, sorted out in their order
pub record AreGathered (before : Option Arch) (objects : List Object) (arch : Arch) (kept : List (List Func)) (omitted : List Omitted) (spans : List Span) : Type 0 where
  pub ordered : List ReadFunction
  pub is : Gathers before objects (Ok ordered)
  -- a list for each input
  pub kept_are : kept ≡ kept_by_item (first_item before) (length objects) ordered
  -- one section can hold all of them
  pub together : AreWritable arch (kept_of ordered)
  pub omitted_are : omitted ≡ omitted_of ordered
  pub spans_are : spans ≡ spans_of ordered

-- the same functions, those of all inputs together
pub record AreTogether (before : Option Arch) (objects : List Object) (arch : Arch) (kept : List Func) (omitted : List Omitted) : Type 0 where
  pub ordered : List ReadFunction
  pub is : Gathers before objects (Ok ordered)
  pub kept_are : kept ≡ kept_of ordered
  -- one section can hold them
  pub writable : AreWritable arch kept
  pub omitted_are : omitted ≡ omitted_of ordered

-- a fault of gathering is the first one, or memory ran out
abbrev pub IsFirstGathered : (before : Option Arch) → List Object → GatherFault → Type 0
IsFirstGathered before objects fault = (fault ≡ gather.NoMemory) ⊎ Gathers before objects (Err fault)

-- These bytes are the section of inputs after an item of this machine or of none: the inputs describe functions, none of them is
-- refused, all items have one machine, the bytes are a faithful section of the functions, without gaps and with the least widths, this
-- number of functions is kept, and these are omitted.
pub record IsLinked (before : Option Arch) (objects : List Object) (at : ℕ) (section : List ℕ) (kept : ℕ) (omitted : List Omitted) : Type 0 where
  pub functions : List Function
  pub are : Describe (first_item before) objects (Ok functions)
  pub arch : Arch
  pub machine : HaveMachine before objects arch
  pub ordered : List ReadFunction
  pub in_order : InOrder (map read_of functions) ordered
  pub accepted : link_fault at ordered ≡ None
  pub faithful : Faithful section at arch functions
  pub tight : Tight section at (table_of arch (kept_of ordered))
  pub narrow : Narrow section (table_of arch (kept_of ordered))
  pub kept_is : kept ≡ length (kept_of ordered)
  pub omitted_are : omitted ≡ omitted_of ordered

-- the section of one input
abbrev pub IsAssembled : Object → (at : ℕ) → (section : List ℕ) → (kept : ℕ) → (omitted : List Omitted) → Type 0
IsAssembled object at section kept omitted = IsLinked None (object ∷ []) at section kept omitted

-- a fault of linking is the first one, or memory ran out
abbrev pub IsFirstLinked : (before : Option Arch) → List Object → (at : ℕ) → LinkFault → Type 0
IsFirstLinked before objects at fault = (fault ≡ link.NoMemory) ⊎ Links before objects at (Err fault)
