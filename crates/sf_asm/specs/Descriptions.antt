-- The functions of inputs, the omitted ones as their records describe them (LSB Core, "The .eh_frame section").
use Rattle.std.specs.Prelude.{◌≡◌, List, map, Option, Ok}
use Rattle.sf_model.specs.declared.machine.Arch.{Arch}
use Rattle.sf_model.specs.declared.function.Func.{Func}
use Rattle.sf_model.specs.declared.omission.Omitted.{Omitted}
use Rattle.sf_model.specs.Function.{AreWritable}
use Rattle.sf_asm.specs.Described.{Describe}
use Rattle.frame_functions.specs.ReadFunction.{kept_of, omitted_of}
use Rattle.frame_functions.specs.Functions.{Function}
use Rattle.sf_asm.specs.Functions.{Object}
use Rattle.sf_asm.specs.Inputs.{first_item}
use Rattle.frame_functions.specs.Kept.{read_of, omitted_functions}
use Rattle.sf_asm.specs.Linking.{Gathers}
use Rattle.frame_functions.specs.Descriptions.{AreByStart}

-- The functions of inputs, after an item of this machine or of none, by rising start: none is refused, one section can hold the kept
-- ones, and these are the kept ones, the omitted ones, and the omitted ones as their records describe them, one for each in the same order.
pub record AreWithDescriptions (before : Option Arch) (objects : List Object) (arch : Arch) (kept : List Func) (omitted : List Omitted) (descriptions : List Function) : Type 0 where
  pub functions : List Function
  pub are : Describe (first_item before) objects (Ok functions)
  pub sorted : List Function
  pub by_start : AreByStart functions sorted
  pub is : Gathers before objects (Ok (map read_of sorted))
  pub kept_are : kept ≡ kept_of (map read_of sorted)
  pub writable : AreWritable arch kept
  pub omitted_are : omitted ≡ omitted_of (map read_of sorted)
  pub descriptions_are : descriptions ≡ omitted_functions sorted
