use Rattle.std.proofs.Common.{◌+◌, refl, subst, sym, arith}
use Rattle.sf_model.specs.declared.machine.Arch.{Arch}
use Rattle.frame_functions.specs.ContentAt.{Answers}
use Rattle.sf_verify.specs.Agreement.{Agree}
use Rattle.sf_verify.specs.Comparing.{Compares, IsComparable, func_read, function_content}
use Rattle.sf_verify.proofs.Compared.{agree_self, later}
use Rattle.frame_functions.proofs.Lending.{if_ok}
use Rattle.sf_verify.proofs.sweep.compare_function.Goals as goal

pub returns-then-keeps-clause-ready : goal.returns-then-keeps-clause-ready
returns-then-keeps-clause-ready c = later _ _ _ c.if-keeps.ensures.ready (omega arith)

pub returns-then-keeps-clause-compared : goal.returns-then-keeps-clause-compared
returns-then-keeps-clause-compared c = λ pc low high.
    subst (Agree (function_content (func_read c.args.head.now c.args.rows) pc)) (sym (c.if-keeps.ensures.kept refl pc low high)) (agree_self (function_content (func_read c.args.head.now c.args.rows) pc))

pub compare_rows-requires-clause-comparable : goal.compare_rows-requires-clause-comparable
compare_rows-requires-clause-comparable c = subst (λ (a : Arch). IsComparable a (func_read c.args.head.now c.args.rows)) (sym c.if-keeps.ensures.same.arch) c.requires.comparable

pub returns-clause-compared : goal.returns-clause-compared
returns-clause-compared c = if_ok c.compare_rows.result _ _
    (λ found compared. subst (λ (q : Answers). Compares (function_content (func_read c.args.head.now c.args.rows)) q c.args.head.now.start (c.args.head.now.start + c.args.head.now.size) found) c.if-keeps.ensures.same.says compared)
    c.compare_rows.ensures.compared
