use Rattle.std.proofs.Common.{◌≡◌, ◌<◌, false, true, List, Some, get_or, length, sym, ap, ◌∙◌, arith}
use Rattle.std.specs.Option.{is_some, option_map}
use Rattle.std.proofs.lemmas.Option.{same_Some}
use Rattle.sf_write.specs.declared.stored.StoredFunction.{StoredFunction}
use Rattle.sf_functions.specs.WithRows.{has_rows}
use Rattle.sf_functions.proofs.StoredAlone.{stored_at, stored_len}
use Rattle.sf_functions.proofs.with_rows.FunctionsWithRowsStoredList.function.Goals as goal

pub index-requires : goal.index-requires
index-requires g c = omega (arith, c.requires, c.self.inside.heads.ok.0, stored_len g.F.MayHaveRows.stored_at c.self.inside.heads.items c.self.invariant, ap length c.self.view_is)

pub unreachable-requires : goal.unreachable-requires
unreachable-requires g c =
    let stored = g.F.MayHaveRows.stored_at in
    let heads = c.self.inside.heads.items in
    let low : c.args.number < length heads = omega (arith, c.requires, stored_len stored heads c.self.invariant, ap length c.self.view_is) in
    let both : false ≡ true =
    ap (λ f. is_some (option_map (λ f. f.now) f)) (sym c.in-None.is) ∙ ap is_some c.stored.ensures ∙ ap (has_rows stored) c.index.ensures ∙ c.self.invariant c.args.number c.index.result.now low in
    absurd (cc both)

pub returns : goal.returns
returns g c = λ d.
    let stored = g.F.MayHaveRows.stored_at in
    let heads = c.self.inside.heads.items in
    let number = c.args.number in
    let low : number < length heads = omega (arith, c.requires, stored_len stored heads c.self.invariant, ap length c.self.view_is) in
    same_Some c.in-Some.function.now (get_or c.args.self.now number d)
    (ap (option_map (λ f. f.now)) (sym c.in-Some.is) ∙ c.stored.ensures ∙ ap stored c.index.ensures ∙ stored_at stored heads number c.index.result.now d c.self.invariant low
    ∙ ap (λ (fs : List StoredFunction). Some (get_or fs number d)) c.self.view_is)
