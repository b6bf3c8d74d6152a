use Rattle.std.proofs.Common.{◌≡◌, true, sym, ◌∙◌}
use Rattle.sf_verify.specs.Agreement.{IsFitting, agree}
use Rattle.sf_verify.proofs.AlikeContents.{alike, says_agree}
use Rattle.sf_verify.proofs.agreement.recover_alike.Goals as goal

pub returns-clause-alike : goal.returns-clause-alike
returns-clause-alike c = λ t. alike c.args.ours c.args.theirs (sym c.agree.ensures ∙ t)

pub returns-clause-differ : goal.returns-clause-differ
returns-clause-differ c = λ e same.
    let ours : IsFitting c.args.arch c.args.ours = record { fits = c.requires.ours; in_range = c.offsets_in_range.ensures } in
    let theirs : IsFitting c.args.arch c.args.theirs = record { fits = c.requires.theirs; in_range = c.offsets_in_range-2.ensures } in
    let yes : agree c.args.ours c.args.theirs ≡ true = says_agree c.args.arch c.args.ours c.args.theirs ours theirs same in
    let is = sym e ∙ (c.agree.ensures ∙ yes) in
    cc
