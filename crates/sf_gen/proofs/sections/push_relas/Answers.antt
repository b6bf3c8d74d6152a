use Rattle.std.proofs.Common.{◌≡◌, ◌++◌, arith}
use Rattle.std.proofs.lemmas.Grind.{common_steps}
use Rattle.sf_gen.specs.Object.{start_rela}
use Rattle.sf_gen.proofs.Ranges.{appended, range_more}
use Rattle.sf_gen.proofs.sections.push_relas.Goals as goal

pub loop-i-preserved : goal.loop-i-preserved
loop-i-preserved c =
    let pushed : c.push_rela.new.bytes.items ≡ c.loop-i.bytes.items ++ start_rela c.loop-i.i = grind (arith, common_steps, c.in_ok-push_rela.ensures) in
    appended _ _ _ _ _ _ c.loop-i.invariant pushed (range_more start_rela c.loop-i.i)
