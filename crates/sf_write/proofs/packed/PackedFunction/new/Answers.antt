use Rattle.std.proofs.Common.{sym, subst}
use Rattle.sf_model.specs.declared.function.Func.{Func}
use Rattle.sf_write.specs.Packed.{ArePacked}
use Rattle.sf_write.proofs.RowsPacked.{unpacked_is}
use Rattle.sf_write.proofs.packed.PackedFunction.new.Goals as goal

pub invariant_of-result : goal.invariant_of-result
invariant_of-result c =
    let can = c.requires in
    subst (λ (func : Func). ArePacked c.args.rows func.rows) (sym (unpacked_is c.args.arch c.args.head c.args.rows can.0 can.1)) can.1.rows

pub returns : goal.returns
returns c = λ func is. unpacked_is c.args.arch c.args.head c.args.rows func is
