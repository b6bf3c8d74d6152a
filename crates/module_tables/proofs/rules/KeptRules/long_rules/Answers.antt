use Rattle.std.proofs.Common.{List, subst}
use Rattle.cfa_insn.specs.Listing.{Item}
use Rattle.signal_frames.specs.InitialRules.{AreInitialRules}
use Rattle.module_tables.proofs.Kept.{with_rules}
use Rattle.module_tables.proofs.rules.KeptRules.long_rules.Goals as goal

pub returns-clause-kept : goal.returns-clause-kept
returns-clause-kept c = λ commons kept has.
    let rules = c.initial_rules-rules.result in
    with_rules commons c.args.number rules c.args.self.now.long c.insert.new.self kept c.in_ok-insert.ensures.updates
    (subst (λ (initial : List Item). AreInitialRules initial rules) has c.initial_rules-rules.ensures)
