use Rattle.core_walk.proofs.Steps.{both_known, no_address, no_pointer}
use Rattle.core_walk.proofs.step.caller_of.Goals as goal

pub returns-in_default : goal.returns-in_default
returns-in_default c = λ key regs memory e go. no_address go c.args.mask c.args.content.now key regs memory c.args.recovered.now c.return_place.result e c.in_default.is c.return_place.ensures

pub returns-in_default-fp : goal.returns-in_default-fp
returns-in_default-fp c = λ key regs memory e go.
    no_pointer go c.args.mask c.args.content.now key regs memory c.args.recovered.now c.in-Some.address c.pointer_place.result e c.in-Some.is c.in_default-fp.is c.pointer_place.ensures

pub returns : goal.returns
returns c = λ key regs memory e go.
    both_known go c.args.mask c.args.content.now key regs memory c.args.recovered.now c.in-Some.address c.in-Some-fp.fp _ e c.in-Some.is c.in-Some-fp.is c.in-Some-unsigned_address.ensures
