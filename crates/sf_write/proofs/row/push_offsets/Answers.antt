use Rattle.sf_write.proofs.Kept.{begin_on}
use Rattle.sf_write.proofs.row.push_offsets.Goals as goal

pub returns-in_err-push_if_any-clause-keeps : goal.returns-in_err-push_if_any-clause-keeps
returns-in_err-push_if_any-clause-keeps c = begin_on _ _ _ c.push_narrow_signed.ensures.keeps c.push_if_any.ensures.keeps

pub returns-clause-keeps : goal.returns-clause-keeps
returns-clause-keeps c = begin_on _ _ _ (begin_on _ _ _ c.push_narrow_signed.ensures.keeps c.push_if_any.ensures.keeps) c.push_if_any-2.ensures.keeps
