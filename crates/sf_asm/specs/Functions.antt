-- The functions that inputs describe, as they are read: in the order of inputs, sections and records (LSB Core, "The .eh_frame section"),
-- or the first fault. `Describe` says the same by what the bytes are.
use Rattle.std.specs.Prelude.{ℕ, ◌+◌, List, [], ◌∷◌, ◌++◌, Result, Ok}
use Rattle.frame_functions.specs.declared.fault.AsmFault.{AsmFault}
use Rattle.sf_asm.specs.declared.fault.GatherFault.{GatherFault}
use Rattle.sf_asm.specs.declared.fault.GatherFault.TheVariants.{Input as RefusedInput}
use Rattle.frame_functions.specs.Functions.{Function, sections_functions}
pub use Rattle.frame_functions.specs.CallFrames.{CallFrames, bare_section}
pub use Rattle.sf_asm.specs.Sections.{Object, bytes_of, form_of, object_of, machine_of, sections_of, seen_behind}
pub use Rattle.sf_bytes.specs.Steps.{◌>>=◌, named}
pub use Rattle.sf_model.specs.Firsts.{unless}

-- ---- inputs
-- the functions of an input, where these signatures of groups were seen before
abbrev pub object_functions : (item : ℕ) → (seen : List (List ℕ)) → Object → Result (List Function) AsmFault
object_functions item seen object = sections_of seen object >>= sections_functions (machine_of object) item

-- those of inputs that are numbered from `item` on
unfoldable pub functions_after : (seen : List (List ℕ)) → (item : ℕ) → List Object → Result (List Function) GatherFault
functions_after seen item [] = Ok []
functions_after seen item (object ∷ objects) =
    named (RefusedInput item) (object_functions item seen object)
    >>= λ fs. functions_after (seen_behind seen object) (item + 1) objects
    >>= λ gs. Ok (fs ++ gs)

-- those of all inputs
abbrev pub functions_of : (item : ℕ) → List Object → Result (List Function) GatherFault
functions_of item objects = functions_after [] item objects
