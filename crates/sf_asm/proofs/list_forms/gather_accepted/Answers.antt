use Rattle.std.proofs.Common.{None, map, inl, inr}
use Rattle.sf_asm.specs.Functions.{object_of}
use Rattle.sf_asm.proofs.Accepting.{none_refused}
use Rattle.sf_asm.proofs.list_forms.gather_accepted.Goals as goal

pub only_memory-requires : goal.only_memory-requires
only_memory-requires c = elim c.in-Err.ensures.fault [
  | inl is ↦ is
  | inr refuses ↦ absurd (none_refused None (map object_of c.args.inputs.now) c.in-Err.fault c.requires.accepted refuses)
]
