use Rattle.sf_verify.proofs.AlikeContents.{alike, says_agree}
use Rattle.sf_verify.proofs.laws.the_test_of_agreement_is_exact.Goals as goal

pub returns : goal.returns
returns c = record { sound = alike; complete = says_agree }
