-- A fault of the definitions is a refusal or a limit, with procedure linkage tables as without them: inputs never come to `NoMemory`.
use Rattle.std.specs.Prelude.{IsTrue}
use Rattle.std.specs.Option.{option_map}
use Rattle.std.proofs.Common.{ℕ, ◌+◌, ◌*◌, List, length, map, sum_by, Option, Result, Ok, Err, refl, sym, subst, inl, inr}
use Rattle.sf_model.specs.declared.machine.Arch.{Arch}
use Rattle.sf_write.specs.Reach.{first_out_of_reach}
use Rattle.sf_functions.specs.Limits.{exceeded}
use Rattle.sf_asm.specs.declared.fault.GatherFault.{GatherFault}
use Rattle.sf_asm.specs.declared.fault.LinkFault.{LinkFault}
use Rattle.sf_asm.specs.declared.fault.LinkFault.TheVariants.{Gather, OutOfReach}
use Rattle.sf_asm.specs.Fault.{is_answered, is_gather_refusal, is_wrapped_answered}
use Rattle.frame_functions.specs.Functions.{Function}
use Rattle.sf_asm.specs.Functions.{Object}
use Rattle.sf_asm.specs.Inputs.{all_functions}
use Rattle.frame_functions.specs.Kept.{read_of}
use Rattle.sf_asm.specs.Linking.{fault_of_limit, functions_fault, or_later}
use Rattle.frame_functions.specs.Order.{read_rows}
use Rattle.sf_asm.proofs.NeverMemory.{FaultIn, FaultIs, all_refused, any_mapped, earlier, functions_tried, limit_answered, mapped, refusal_or_limit, where_none}
use Rattle.sf_plt.specs.Answers.{IsFirstPltLinked}
use Rattle.sf_plt.specs.Linking.{LinksPltsFrom, plt_link_fault, plts_fault}
use Rattle.sf_plt.specs.Plt.{plt_functions}
use Rattle.sf_plt.specs.Written.{written_functions}
use Rattle.sf_plt.proofs.Described.{from_links}

limits : (sorted : List Function) → FaultIn is_wrapped_answered (plts_fault sorted)
unfolding plts_fault
limits sorted =
    any_mapped is_wrapped_answered fault_of_limit (exceeded (length sorted + length (plt_functions sorted)) (sum_by read_rows (map read_of sorted) + 4 * length (plt_functions sorted))) limit_answered

tried : (at : ℕ) (sorted : List Function) → FaultIn is_answered (plt_link_fault at sorted)
tried at sorted =
    earlier is_answered (option_map Gather (or_later (functions_fault (map read_of sorted)) (plts_fault sorted))) _
    (mapped is_wrapped_answered is_answered Gather (or_later (functions_fault (map read_of sorted)) (plts_fault sorted)) (λ fault h. h)
    (earlier is_wrapped_answered (functions_fault (map read_of sorted)) (plts_fault sorted) (functions_tried (map read_of sorted)) (limits sorted)))
    (any_mapped is_answered OutOfReach (first_out_of_reach at 0 (written_functions sorted)) (λ start. refl))

links_from : (at : ℕ) (given : Result (List Function) GatherFault) (result : Result (List Function) LinkFault) → FaultIs is_gather_refusal given → LinksPltsFrom at given result → FaultIs is_answered result
links_from at (Ok functions) result h (sorted, order, is) = subst (FaultIs is_answered) (sym is) (where_none is_answered (plt_link_fault at sorted) sorted (tried at sorted))
links_from at (Err fault) result h is = subst (FaultIs is_answered) (sym is) (refusal_or_limit fault h)

-- a call returns that fault, or that memory ran out
pub first_is_answered : (before : Option Arch) (objects : List Object) (at : ℕ) (fault : LinkFault) → IsFirstPltLinked before objects at fault → IsTrue (is_answered fault)
first_is_answered before objects at fault (inl is) = subst (λ (f : LinkFault). IsTrue (is_answered f)) (sym is) refl
first_is_answered before objects at fault (inr h) = links_from at (all_functions before objects) (Err fault) (all_refused before objects) (from_links before objects at (Err fault) h)
