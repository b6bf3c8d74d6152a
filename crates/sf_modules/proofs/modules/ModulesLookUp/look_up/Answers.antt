use Rattle.std.specs.Prelude.{map}
use Rattle.std.specs.Option.{option_map}
use Rattle.std.proofs.Common.{◌<◌, length, sym, ap, ◌∙◌, arith}
use Rattle.std.proofs.lemmas.List.{get_or-map, length-map}
use Rattle.sf_model.specs.declared.machine.Arch.{Arch}
use Rattle.sf_lookup.specs.declared.lookup.Found.{Found}
use Rattle.sf_lookup.specs.Indexed.{indexed_table}
use Rattle.sf_lookup.specs.Lookup.{shown}
use Rattle.sf_modules.specs.Views.{entry_views, modules_in}
use Rattle.sf_modules.proofs.Numbers.{found_there, nothing_found, numbered_within}
use Rattle.sf_modules.proofs.modules.ModulesLookUp.look_up.Goals as goal

pub returns-in_err-number-clause-found : goal.returns-in_err-number-clause-found
returns-in_err-number-clause-found c =
    let m = c.args.self.now in
    ap (option_map (λ (f : Arch × Found). f.1)) c.from_residual.ensures ∙ ap (option_map shown) (nothing_found (entry_views m) (modules_in m) c.args.pc c.in_err-number.ensures)

pub index-requires : goal.index-requires
index-requires c =
    let m = c.args.self.now in
    let within = numbered_within (entry_views m) (modules_in m) (map indexed_table m.sections.items) c.args.pc c.in_ok-number.number m.indexed c.in_ok-number.ensures in
    let all = length-map m.sections.items indexed_table in
    let count = m.sections.ok.0 in
    omega (within, all, count, arith)

pub returns-clause-found : goal.returns-clause-found
returns-clause-found c =
    let m = c.args.self.now in
    let section = c.index.result.now in
    let number = c.in_ok-number.number in
    let within = numbered_within (entry_views m) (modules_in m) (map indexed_table m.sections.items) c.args.pc number m.indexed c.in_ok-number.ensures in
    let all = length-map m.sections.items indexed_table in
    let lt : number < length m.sections.items = omega (within, all, arith) in
    c.look_up.ensures.found
    ∙ ap (option_map shown)
    (found_there (entry_views m) (modules_in m) (map indexed_table m.sections.items) c.args.pc number (indexed_table section) m.indexed c.in_ok-number.ensures
    (ap indexed_table c.index.ensures ∙ sym (get_or-map indexed_table m.sections.items number section (indexed_table section) lt)))
