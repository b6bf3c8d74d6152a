use Rattle.std.proofs.Common.{◌≡◌, length, drop, sym, ◌∙◌, arith}
use Rattle.std.proofs.lemmas.List.{length-drop}
use Rattle.sf_bytes.proofs.Run.{goes_on, ends, too_long, short}
use Rattle.sf_bytes.proofs.leb.number_length.Goals as goal

pub returns-then-count-eq-MOST_BYTES-clause-exact :
    goal.returns-then-count-eq-MOST_BYTES-clause-exact
returns-then-count-eq-MOST_BYTES-clause-exact c =
    sym (too_long c.args.place 10 c.loop-byte.count c.args.bytes.now (omega arith)) ∙ c.loop-byte.invariant.rest

pub returns-then-byte-lt128-clause-exact : goal.returns-then-byte-lt128-clause-exact
returns-then-byte-lt128-clause-exact c =
    let low = rw (sym c.loop-byte.invariant.counted) at c.if-byte-lt128.true in
    sym (ends c.args.place 10 c.loop-byte.count c.args.bytes.now (omega arith) (omega arith) low) ∙ c.loop-byte.invariant.rest

pub loop-byte-preserved : goal.loop-byte-preserved
loop-byte-preserved c =
    let high = rw (sym c.loop-byte.invariant.counted) at c.if-byte-lt128.false in
    record {
      counted = omega arith;
      most = omega arith;
      rest = sym (goes_on c.args.place 10 c.loop-byte.count c.args.bytes.now (omega arith) (omega arith) high) ∙ c.loop-byte.invariant.rest;
    }

pub returns-then-count-eq-MOST_BYTES-2-clause-exact :
    goal.returns-then-count-eq-MOST_BYTES-2-clause-exact
returns-then-count-eq-MOST_BYTES-2-clause-exact c =
    sym (too_long c.args.place 10 c.loop-byte.count c.args.bytes.now (omega arith)) ∙ c.loop-byte.invariant.rest

pub returns-clause-exact : goal.returns-clause-exact
returns-clause-exact c =
    let none : length (drop c.loop-byte.count c.args.bytes.now) ≡ 0 = rw (length-drop c.loop-byte.count c.args.bytes.now) (omega arith) in
    sym (short c.args.place 10 c.loop-byte.count c.args.bytes.now (omega arith) none) ∙ c.loop-byte.invariant.rest
