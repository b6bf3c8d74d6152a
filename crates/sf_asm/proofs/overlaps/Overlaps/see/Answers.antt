use Rattle.std.proofs.Common.{◌≡◌, None, ne_eqb, rules}
use Rattle.sf_asm.proofs.OverlapLaws.{next_is_seen}
use Rattle.sf_asm.proofs.overlaps.Overlaps.see.Goals as goal

pub returns : goal.returns
returns c =
    let none : c.args.self.now.first ≡ None = search rules in
    λ spans. next_is_seen c.args.self.now c.args.span spans _ none (ne_eqb _ _ c.if-span-eq0.false) c.overlap_of-self.ensures
