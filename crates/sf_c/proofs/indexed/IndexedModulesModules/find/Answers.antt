use Rattle.std.proofs.Common.{length, sym}
use Rattle.std.proofs.lemmas.Bool.{ltb-true}
use Rattle.sf_c.proofs.Ordered.{no_rule_found, rule_found}
use Rattle.sf_c.proofs.indexed.IndexedModulesModules.find.Goals as goal

pub returns-in-Some : goal.returns-in-Some
returns-in-Some c =
    let modules = c.args.self.now.modules.now in
    rule_found modules c.args.address c.index_of-index.result c.in-Some.module.now c.rule_in-rule.result c.index_of-index.ensures
    (ltb-true c.index_of-index.result (length modules) (sym c.in-Some.ensures.lookup.0)) c.in-Some.ensures.lookup.1 c.rule_in-rule.ensures

pub returns-in-None : goal.returns-in-None
returns-in-None c = no_rule_found c.args.self.now.modules.now c.args.address c.index_of-index.result c.index_of-index.ensures c.in-None.ensures.lookup.3
