use Rattle.sf_plt.proofs.Stored.{added}
use Rattle.sf_plt.proofs.sorting.FunctionsAndTables.add.Goals as goal

pub returns-clause-stored : goal.returns-clause-stored
returns-clause-stored c =
    (added c.args.self.now.rows c.push.new.self c.args.self.now.written.items c.push-2.new.self.items _ c.args.func.now c.push.ensures.keeps c.requires.stored c.in_ok-stored.ensures.pushed c.in_ok-push.ensures.items).stored

pub returns-clause-written : goal.returns-clause-written
returns-clause-written c =
    (added c.args.self.now.rows c.push.new.self c.args.self.now.written.items c.push-2.new.self.items _ c.args.func.now c.push.ensures.keeps c.requires.stored c.in_ok-stored.ensures.pushed c.in_ok-push.ensures.items).written
