use Rattle.std.proofs.Common.{true}
use Rattle.sf_write.proofs.Kept.{begin_front, begin_on}
use Rattle.sf_write.proofs.packed.push_all.Goals as goal

pub returns-in_err-push_row-clause-keeps : goal.returns-in_err-push_row-clause-keeps
returns-in_err-push_row-clause-keeps c =
    begin_on c.args.bytes.now.items c.loop-row.bytes.items c.push_row.new.bytes.items (begin_front true c.args.bytes.now.items c.loop-row.bytes.items _ c.loop-row.invariant) c.push_row.ensures.keeps

pub returns-clause-keeps : goal.returns-clause-keeps
returns-clause-keeps c = begin_front true c.args.bytes.now.items c.loop-row.bytes.items _ c.loop-row.invariant
