use Rattle.std.proofs.Common.{All, map, ap, subst, sym, ◌∙◌}
use Rattle.sf_write.specs.Stored.{IsStored, stored_in}
use Rattle.sf_merge.specs.Merging.{merged_functions}
use Rattle.sf_merge.proofs.Heads.{all_stored, written_are}
use Rattle.sf_merge.proofs.merging.written.Goals as goal

pub returns-clause-stored : goal.returns-clause-stored
returns-clause-stored c = subst (All (IsStored c.into_parts-heads.result.1)) (sym c.of.ensures) (all_stored _ _ c.into_parts-heads.ensures.stored)

pub returns-clause-written : goal.returns-clause-written
returns-clause-written c =
    ap (map (stored_in c.into_parts-heads.result.1)) c.of.ensures ∙ written_are c.into_parts-heads.result.1 c.into_parts-heads.result.0.items c.into_parts-heads.ensures.stored
    ∙ ap merged_functions (sym c.into_parts-heads.ensures.are)
