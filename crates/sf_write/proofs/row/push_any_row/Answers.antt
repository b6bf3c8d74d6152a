use Rattle.sf_write.proofs.Kept.{begin_front, begin_on}
use Rattle.sf_write.proofs.row.push_any_row.Goals as goal

pub returns-clause-keeps : goal.returns-clause-keeps
returns-clause-keeps c =
    begin_on c.args.bytes.now.items c.push_narrow.new.bytes.items c.push_offsets.new.bytes.items c.push_narrow.ensures.keeps
    (begin_on c.push_narrow.new.bytes.items c.push.new.self.items c.push_offsets.new.bytes.items
    (begin_front _ c.push_narrow.new.bytes.items c.push.new.self.items _ c.push.ensures.items) c.push_offsets.ensures.keeps)
