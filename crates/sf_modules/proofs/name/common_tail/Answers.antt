use Rattle.std.proofs.Common.{◌≡◌, reverse, sym, arith}
use Rattle.std.proofs.lemmas.Bool.{eq-eqb, ne_eqb}
use Rattle.sf_modules.specs.Name.{common_tail}
use Rattle.sf_modules.proofs.Names.{at_difference, at_front, at_other_front, in_common, last_one, no_other_part, no_part, passed_byte, passed_slash, starts_with_all, whole_part}
use Rattle.sf_modules.proofs.name.common_tail.Goals as goal
use Rattle.sf_modules.proofs.name.common_tail.Goals.{then-byte-eq47, else-byte-eq47, else-loop-passed-test, then-loop-passed-test+in_default, then-loop-passed-test+in-Some+in_default-split_last, then-loop-passed-test+in-Some+in-Some-split_last+then-byte-other_byte, else-ends_part-via-then-ends_part+else-ends_part-2, else-ends_part-via-else-ends_part}

pub loop-passed-init : goal.loop-passed-init
loop-passed-init c = record { few = omega arith; left = omega arith; same = starts_with_all c.args.name.now c.args.other.now }

pub loop-passed-preserved : goal.loop-passed-preserved
loop-passed-preserved c =
    let before = c.loop-passed in
    let is = c.in-Some.ensures.cases in
    let other_is = c.in-Some-split_last.ensures.cases in
    let all = common_tail c.args.name.now c.args.other.now in
    record {
      few = elim c.if-byte-eq47.branch [ then-byte-eq47 w ↦ omega (w.parts-is, before.invariant.few, arith) | else-byte-eq47 w ↦ omega (w.parts-is, before.invariant.few, arith) ];
      left = omega (is.1, before.invariant.left, arith);
      same = elim c.if-byte-eq47.branch [
        | then-byte-eq47 w ↦
            passed_slash all before.parts c.if-byte-eq47.parts before.rest.now c.in-Some.front.now before.others.now c.in-Some-split_last.other_front.now c.in-Some.byte.now c.in-Some-split_last.other_byte.now before.invariant.same is.0 other_is.0
            c.if-byte-other_byte.false (eq-eqb _ 47 w.if-byte-eq47.true) w.parts-is
        | else-byte-eq47 w ↦
            passed_byte all before.parts c.if-byte-eq47.parts before.rest.now c.in-Some.front.now before.others.now c.in-Some-split_last.other_front.now c.in-Some.byte.now c.in-Some-split_last.other_byte.now before.invariant.same is.0 other_is.0
            c.if-byte-other_byte.false (ne_eqb _ 47 w.if-byte-eq47.false) w.parts-is
      ];
    }

pub returns-then-ends_part-2 : goal.returns-then-ends_part-2
returns-then-ends_part-2 c =
    let at = c.loop-passed in
    let last : in_common (reverse at.rest.now) (reverse at.others.now) ≡ last_one (reverse at.rest.now) (reverse at.others.now) =
    elim c.loop-passed-test.branch [
      | else-loop-passed-test w ↦ at_front at.rest.now at.others.now (omega (w.loop-passed-test.false, at.invariant.left, arith))
      | then-loop-passed-test+in_default w ↦ at_front at.rest.now at.others.now w.in_default.ensures.cases
      | then-loop-passed-test+in-Some+in_default-split_last w ↦ at_other_front at.rest.now at.others.now w.in_default-split_last.ensures.cases
      | then-loop-passed-test+in-Some+in-Some-split_last+then-byte-other_byte w ↦
          at_difference at.rest.now w.in-Some.front.now at.others.now w.in-Some-split_last.other_front.now w.in-Some.byte.now w.in-Some-split_last.other_byte.now w.in-Some.ensures.cases.0 w.in-Some-split_last.ensures.cases.0
          w.if-byte-other_byte.true
    ] in
    whole_part (common_tail c.args.name.now c.args.other.now) at.parts at.rest.now at.others.now at.invariant.same last (sym c.if-ends_part.ensures) (sym c.if-ends_part-2.ensures)

pub returns-else-ends_part : goal.returns-else-ends_part
returns-else-ends_part c =
    let at = c.loop-passed in
    let last : in_common (reverse at.rest.now) (reverse at.others.now) ≡ last_one (reverse at.rest.now) (reverse at.others.now) =
    elim c.loop-passed-test.branch [
      | else-loop-passed-test w ↦ at_front at.rest.now at.others.now (omega (w.loop-passed-test.false, at.invariant.left, arith))
      | then-loop-passed-test+in_default w ↦ at_front at.rest.now at.others.now w.in_default.ensures.cases
      | then-loop-passed-test+in-Some+in_default-split_last w ↦ at_other_front at.rest.now at.others.now w.in_default-split_last.ensures.cases
      | then-loop-passed-test+in-Some+in-Some-split_last+then-byte-other_byte w ↦
          at_difference at.rest.now w.in-Some.front.now at.others.now w.in-Some-split_last.other_front.now w.in-Some.byte.now w.in-Some-split_last.other_byte.now w.in-Some.ensures.cases.0 w.in-Some-split_last.ensures.cases.0
          w.if-byte-other_byte.true
    ] in
    elim c.else-ends_part.branch [
      | else-ends_part-via-then-ends_part+else-ends_part-2 w ↦ no_other_part (common_tail c.args.name.now c.args.other.now) at.parts at.rest.now at.others.now at.invariant.same last (sym w.if-ends_part-2.ensures)
      | else-ends_part-via-else-ends_part w ↦ no_part (common_tail c.args.name.now c.args.other.now) at.parts at.rest.now at.others.now at.invariant.same last (sym w.if-ends_part.ensures)
    ]
