use Rattle.std.proofs.Common.{[], ◌∷◌, sym, subst}
use Rattle.sf_model.specs.declared.function.Func.{Func}
use Rattle.sf_model.specs.Function.{AreWritable}
use Rattle.sframe_tests.proofs.Writing.{are_writable_gives}
use Rattle.sframe_tests.proofs.write.section_of.Goals as goal

pub write-requires : goal.write-requires
write-requires c =
    subst (λ (f : Func). AreWritable c.args.arch (f ∷ [])) (sym c.in_ok-function.ensures) (are_writable_gives c.args.arch _ c.requires)
