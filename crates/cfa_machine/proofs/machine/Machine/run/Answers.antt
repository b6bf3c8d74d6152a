use Rattle.cfa_machine.proofs.machine.Machine.run.Goals as goal

pub returns-in-Advance-clause-steps : goal.returns-in-Advance-clause-steps
returns-in-Advance-clause-steps c = rw c.in-Advance.is (c.advance.ensures.steps c.args.place)
