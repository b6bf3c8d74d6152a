use Rattle.std.specs.Prelude.{max}
use Rattle.std.proofs.Common.{◌≡◌, ℕ, map, ap, ◌∙◌, rules}
use Rattle.sf_modules.specs.Candidates.{candidates}
use Rattle.sf_modules.specs.Entry.{mapping_view}
use Rattle.sf_modules.specs.LastParts.{candidates_left}
use Rattle.sf_modules.specs.Match.{longest_tail}
use Rattle.sf_modules.proofs.Alike.{longest_among}
use Rattle.sf_modules.proofs.Tails.{none_more, one_more, starts}
use Rattle.sf_modules.proofs.nearest.longest_tail.Goals as goal

pub loop-entry-init : goal.loop-entry-init
loop-entry-init c =
    let views = map mapping_view c.args.process.now.entries.now in
    let all : candidates_left c.into_iter-entry-iterator.result ≡ candidates c.args.word.now (map mapping_view c.args.process.now.entries.now) = search rules in
    starts c.args.word.now _ views (ap (longest_tail c.args.word.now) all ∙ longest_among c.args.word.now views)

pub loop-entry-preserved : goal.loop-entry-preserved
loop-entry-preserved c =
    one_more c.args.word.now _ _ (mapping_view c.in-Some.entry.now) c.loop-entry.longest c.max-longest.result _ c.in-Some.ensures.steps
    (c.max-longest.ensures ∙ ap (λ (n : ℕ). max n c.loop-entry.longest) c.common_tail.ensures) c.loop-entry.invariant

pub returns : goal.returns
returns c = none_more c.args.word.now _ c.loop-entry.longest _ c.in-None.ensures.steps.0 c.loop-entry.invariant
