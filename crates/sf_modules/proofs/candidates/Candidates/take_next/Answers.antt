use Rattle.std.proofs.Common.{◌≡◌, None, Some, length, map, ap, ◌∙◌, arith, rules}
use Rattle.std.proofs.lemmas.List.{get_or_default}
use Rattle.sf_modules.specs.Entry.{mapping_view}
use Rattle.sf_modules.proofs.Alike.{from_number, goes_on, leads_within, next_count}
use Rattle.sf_modules.proofs.candidates.Candidates.take_next.Goals as goal

pub bounds-self-at : goal.bounds-self-at
bounds-self-at c =
    let it = c.args.self.now in
    let is : c.args.self.now.at ≡ Some c.in_ok-at.at = search rules in
    let within = it.within c.in_ok-at.at is in
    let all = ap length it.next_are ∙ next_count it.entries.now in
    omega (within, all, arith)

pub invariant_of-self : goal.invariant_of-self
invariant_of-self c =
    let it = c.args.self.now in
    let is : c.args.self.now.at ≡ Some c.in_ok-at.at = search rules in
    record { next_are = it.next_are; within = λ k e. leads_within it.entries.now c.in_ok-at.at k it.next.now None (it.within c.in_ok-at.at is) it.next_are e }

pub returns : goal.returns
returns c =
    let it = c.args.self.now in
    let is : c.args.self.now.at ≡ Some c.in_ok-at.at = search rules in
    let lt = it.within c.in_ok-at.at is in
    ap (from_number (map mapping_view it.entries.now)) is ∙ goes_on it.entries.now c.in_ok-at.at _ it.next.now None lt (get_or_default it.entries.now c.in_ok-at.at _ _ lt) it.next_are
