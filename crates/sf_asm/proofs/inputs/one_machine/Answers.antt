use Rattle.std.proofs.Common.{◌∙◌, ap, sym}
use Rattle.sf_asm.specs.Functions.{unless}
use Rattle.sf_asm.proofs.Machines.{have_first_alone, have_first_behind, one_is_unmixed, refused_alone, refused_behind}
use Rattle.sf_asm.proofs.inputs.one_machine.Goals as goal
use Rattle.sf_asm.proofs.inputs.one_machine.Goals.{in-Some, in-None}

pub returns-in-Some-first_differing-clause-exact : goal.returns-in-Some-first_differing-clause-exact
returns-in-Some-first_differing-clause-exact c =
    let found = sym c.first_differing.ensures ∙ c.in-Some-first_differing.is in
    sym (ap unless (elim c.match-before.branch [
      | in-Some w ↦ refused_behind c.args.before w.in-Some.arch c.match-before.first c.args.machines.now c.in-Some-first_differing.index w.in-Some.is w.first-is found
      | in-None w ↦ refused_alone c.args.before _ c.match-before.first c.args.machines.now c.in-Some-first_differing.index w.in-None.is w.first-is c.requires.0 found
    ]))

pub returns-in-None-first_differing-clause-one : goal.returns-in-None-first_differing-clause-one
returns-in-None-first_differing-clause-one c =
    let none = sym c.first_differing.ensures ∙ c.in-None-first_differing.is in
    elim c.match-before.branch [
      | in-Some w ↦ have_first_behind c.args.before w.in-Some.arch c.match-before.first c.args.machines.now w.in-Some.is w.first-is none
      | in-None w ↦ have_first_alone c.args.before c.match-before.first c.args.machines.now w.in-None.is none
    ]

pub returns-in-None-first_differing-clause-exact : goal.returns-in-None-first_differing-clause-exact
returns-in-None-first_differing-clause-exact c = sym (ap unless (one_is_unmixed c.match-before.first.1 _ (returns-in-None-first_differing-clause-one c)))
