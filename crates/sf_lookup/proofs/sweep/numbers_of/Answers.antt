use Rattle.std.proofs.Common.{◌≡◌, length, arith, rules}
use Rattle.std.proofs.lemmas.List.Sorted.{IsNonDecreasingBy-from_sort_by_key}
use Rattle.sf_lookup.specs.Begins.{span_start}
use Rattle.sf_lookup.proofs.Sweeping.{no_number, one_number, put_in_order}
use Rattle.sf_lookup.proofs.sweep.numbers_of.Goals as goal

pub loop-number-init : goal.loop-number-init
loop-number-init g c = no_number c.in_ok-numbers.numbers.items c.in_ok-numbers.ensures.items

pub loop-number-preserved : goal.loop-number-preserved
loop-number-preserved g c = one_number c.loop-number.number c.loop-number.numbers.items c.push.new.self.items c.in_ok-push.ensures.items c.loop-number.invariant

pub returns : goal.returns
returns g c =
    let spans = c.args.spans.now in
    let count : c.in-Ok.count ≡ length c.args.spans.now = search rules in
    let all : c.loop-number.number ≡ length c.args.spans.now = omega (c.loop-number-test.false, c.loop-number.auto.number-end, count, arith) in
    put_in_order spans c.loop-number.number c.loop-number.numbers.items c.sort_unstable_by_key.new.self.items all c.loop-number.invariant c.sort_unstable_by_key.ensures.permutation
    (IsNonDecreasingBy-from_sort_by_key (span_start spans) c.sort_unstable_by_key.new.self.items c.sort_unstable_by_key.ensures.sorted (λ a r f q. search rules))
