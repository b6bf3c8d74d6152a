use Rattle.std.proofs.Common.{All, map, subst, sym, ap, ◌∙◌}
use Rattle.sf_write.specs.Stored.{IsStored, stored_in}
use Rattle.frame_functions.specs.ReadFunction.{kept_of}
use Rattle.frame_functions.proofs.ListedFunctions.{all_stored, kept_are}
use Rattle.frame_functions.proofs.function_list.FunctionList.part.Goals as goal

pub returns-clause-stored : goal.returns-clause-stored
returns-clause-stored c = subst (All (IsStored c.self.inside.rows)) (sym c.of.ensures) (all_stored c.self.inside.rows c.self.inside.heads.items c.self.invariant)

pub returns-clause-kept : goal.returns-clause-kept
returns-clause-kept c =
    ap (map (stored_in c.self.inside.rows)) c.of.ensures ∙ kept_are c.self.inside.rows c.self.inside.heads.items ∙ ap kept_of c.self.view_is
