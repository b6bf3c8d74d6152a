use Rattle.sf_express.proofs.ByOffsets.{answer_means}
use Rattle.sf_express.proofs.Omitted.{answer_omits}
use Rattle.sf_express.proofs.list_forms.express.Goals as goal

pub returns-clause-omits : goal.returns-clause-omits
returns-clause-omits c = answer_omits _ _ _ _ c.requires c.whole.ensures.exact

pub returns-clause-means : goal.returns-clause-means
returns-clause-means c = answer_means _ _ _ _ c.requires c.whole.ensures.exact (answer_omits _ _ _ _ c.requires c.whole.ensures.exact)
