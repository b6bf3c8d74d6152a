-- The functions that are written (GNU SFrame specification, Version 2, function descriptor entries). For a procedure linkage table
-- there are two: one of its first entry, and one of the repeated blocks of 16 bytes from there to its end.
use Rattle.std.specs.Prelude.{◌+◌, ◌-◌, ℕ, pos, List, [], ◌∷◌, Option, Some, None, if◌then◌else◌}
use Rattle.std.specs.Option.{option_map, option_and_then, option_or}
use Rattle.std.specs.List.{find, flat_map}
use Rattle.sf_model.specs.declared.content.Content.{Content}
use Rattle.sf_model.specs.declared.function.Func.{Func}
use Rattle.sf_model.specs.declared.function.Shape.TheVariants.{Plain, Repeat}
use Rattle.sf_model.specs.declared.recovery.Regs.{Regs}
use Rattle.sf_model.specs.declared.rows.Row.{Row}
use Rattle.sf_model.specs.Memory.{Region}
use Rattle.sf_model.specs.Walk.{ThreadState, Listing, Recovering, walk_by}
use Rattle.cfa_machine.specs.Recovery.{RuleRecovery}
use Rattle.frame_functions.specs.declared.read_function.Expressed.{Expressed}
use Rattle.frame_functions.specs.declared.read_function.Expressed.TheVariants.{Kept, LeftOut}
use Rattle.frame_functions.specs.Functions.{holds_address, Function}
use Rattle.sf_asm.specs.Faithful.{if_whole, recovered_at}
use Rattle.frame_functions.specs.Kept.{read_of}
use Rattle.sf_plt.specs.Plt.{initial_content, is_plt, plt_functions, recovered_in_plt}

-- ---- the two functions
-- the row at an offset with this content, but with the canonical frame address this far from the stack pointer
abbrev pub row_saying : (start distance : ℕ) → Content → Row
row_saying start distance content = record { start = start; content = record content { cfa = pos distance } }

-- the function of the first entry, of 16 bytes: two numbers are pushed, the second one by the first instruction, of 6 bytes
abbrev pub first_entry : Function → Content → Func
first_entry f content = record {
  start = f.start;
  size = 16;
  shape = Plain;
  key = f.key;
  rows = row_saying 0 16 content ∷ row_saying 6 24 content ∷ [];
}

-- the function of the entries after the first one: in each block a number is pushed, by the instruction that ends at 11
abbrev pub later_entries : Function → Content → Func
later_entries f content = record {
  start = f.start + 16;
  size = f.size - 16;
  shape = Repeat 16;
  key = f.key;
  rows = row_saying 0 8 content ∷ row_saying 11 16 content ∷ [];
}

-- the two functions for this content, if there is one
abbrev pub pair_by : Function → Option Content → List Func
pair_by f None = []
pair_by f (Some content) = first_entry f content ∷ later_entries f content ∷ []

-- the two functions of a procedure linkage table
abbrev pub plt_pair : Function → List Func
plt_pair f = pair_by f (initial_content f)

-- ---- all functions
-- the functions that are written for this outcome of expressing one
abbrev pub written_as : Function → Expressed → List Func
written_as f (Kept g) = g ∷ []
written_as f (LeftOut omission) = if is_plt f then plt_pair f else []

-- the functions that are written for one: the function as it is expressed, or two functions, or none
abbrev pub written_of : Function → List Func
written_of f = written_as f (read_of f).outcome

-- the functions that are written for all these
abbrev pub written_functions : List Function → List Func
written_functions functions = flat_map written_of functions

-- ---- what is recovered
-- the recovery at an address: of a kept function by its rules, or else of a procedure linkage table by its rules and the expression
unfoldable pub recovered_with_plts : List Function → List Region → (address : ℕ) → Regs → Option RuleRecovery
recovered_with_plts functions memory address regs =
    option_or (recovered_at functions memory address regs) (option_map (recovered_in_plt memory address regs) (find (holds_address address) (plt_functions functions)))

-- the recovery for a walk: if nothing that is recovered is undefined
abbrev pub recover_with_plts : List Function → List Region → Recovering
recover_with_plts functions memory asked regs = option_and_then if_whole (recovered_with_plts functions memory asked regs)

-- the walk of a thread by these recoveries
unfoldable pub walk_with_plts : List Function → ThreadState → List Region → (depth : ℕ) → Listing
walk_with_plts functions thread memory depth = walk_by (recover_with_plts functions memory) thread depth
