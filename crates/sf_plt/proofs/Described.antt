-- What linking with procedure linkage tables comes to, by what is read of the inputs.
use Rattle.std.proofs.Common.{ℕ, List, Option, Result, sym, subst}
use Rattle.sf_model.specs.declared.machine.Arch.{Arch}
use Rattle.sf_asm.specs.declared.fault.GatherFault.{GatherFault}
use Rattle.sf_asm.specs.declared.fault.LinkFault.{LinkFault}
use Rattle.frame_functions.specs.Functions.{Function}
use Rattle.sf_asm.specs.Functions.{Object}
use Rattle.sf_asm.specs.Inputs.{all_functions}
use Rattle.sf_asm.proofs.Described.{are_together, together}
use Rattle.sf_plt.specs.Linking.{LinksPlts, LinksPltsFrom}

pub from_links : (before : Option Arch) (objects : List Object) (at : ℕ) (r : Result (List Function) LinkFault) → LinksPlts before objects at r → LinksPltsFrom at (all_functions before objects) r
from_links before objects at r h = subst (λ (given : Result (List Function) GatherFault). LinksPltsFrom at given r) (sym (together before objects h.given h.described)) h.comes

pub to_links : (before : Option Arch) (objects : List Object) (at : ℕ) (r : Result (List Function) LinkFault) → LinksPltsFrom at (all_functions before objects) r → LinksPlts before objects at r
to_links before objects at r h = record { given = all_functions before objects; described = are_together before objects; comes = h }
