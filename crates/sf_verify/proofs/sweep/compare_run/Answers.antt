use Rattle.std.proofs.Common.{◌≡◌, ◌+◌, None, refl, arith, ap, sym, subst, ◌∙◌}
use Rattle.sf_verify.specs.Asking.{IsKnownUpTo, Knows, contents_of}
use Rattle.frame_functions.specs.ContentAt.{Answers}
use Rattle.sf_verify.proofs.Compared.{alike_on, known_some, later, nothing_there, other_there, same_again}
use Rattle.sf_verify.proofs.sweep.compare_run.Goals as goal

-- ---- there is no content
pub returns-in_default-clause-same : goal.returns-in_default-clause-same
returns-in_default-clause-same c = same_again _ _ _ c.loop-known.invariant.same c.in_ok-known.ensures.same

pub returns-in_default-clause-ready : goal.returns-in_default-clause-ready
returns-in_default-clause-ready c = later _ _ _ c.in_ok-known.ensures.ready (omega (arith, c.loop-known.invariant.to))

pub returns-in_default-clause-compared : goal.returns-in_default-clause-compared
returns-in_default-clause-compared c =
    let inv = c.loop-known.invariant in
    let none : contents_of c.loop-known.dwarf c.loop-known.pc ≡ None = subst (Knows c.loop-known.dwarf.arch (contents_of c.loop-known.dwarf) c.loop-known.pc) c.in_default.is c.in_ok-known.ensures.known in
    nothing_there c.args.said (contents_of c.args.dwarf.now) c.args.from (c.args.last + 1) c.loop-known.pc inv.from (omega (arith, inv.to)) inv.compared (ap (λ (q : Answers). q c.loop-known.pc) (sym inv.same.says) ∙ none)

-- ---- the content differs
pub returns-then-not-recover_alike-clause-same : goal.returns-then-not-recover_alike-clause-same
returns-then-not-recover_alike-clause-same c = same_again _ _ _ c.loop-known.invariant.same c.in_ok-known.ensures.same

pub returns-then-not-recover_alike-clause-ready : goal.returns-then-not-recover_alike-clause-ready
returns-then-not-recover_alike-clause-ready c = later _ _ _ c.in_ok-known.ensures.ready (omega (arith, c.loop-known.invariant.to))

pub returns-then-not-recover_alike-clause-compared : goal.returns-then-not-recover_alike-clause-compared
returns-then-not-recover_alike-clause-compared c =
    let inv = c.loop-known.invariant in
    let there = subst (λ (q : Answers). IsKnownUpTo c.loop-known.dwarf.arch q c.loop-known.pc c.in-Some.known) inv.same.says (known_some c.loop-known.dwarf.arch (contents_of c.loop-known.dwarf) c.loop-known.pc c.in_ok-known.field-0 c.in-Some.known c.in-Some.is c.in_ok-known.ensures.known) in
    other_there c.loop-known.dwarf.arch c.args.said c.in-Some.known (contents_of c.args.dwarf.now) c.args.from (c.args.last + 1) c.loop-known.pc inv.from (omega (arith, inv.to)) inv.compared there (c.if-not-recover_alike.ensures.differ refl)

-- ---- the content is the same to the end
pub returns-then-known-last-clause-same : goal.returns-then-known-last-clause-same
returns-then-known-last-clause-same c = same_again _ _ _ c.loop-known.invariant.same c.in_ok-known.ensures.same

pub returns-then-known-last-clause-ready : goal.returns-then-known-last-clause-ready
returns-then-known-last-clause-ready c = later _ _ _ c.in_ok-known.ensures.ready (omega (arith, c.loop-known.invariant.to))

pub returns-then-known-last-clause-compared : goal.returns-then-known-last-clause-compared
returns-then-known-last-clause-compared c =
    let inv = c.loop-known.invariant in
    let there = subst (λ (q : Answers). IsKnownUpTo c.loop-known.dwarf.arch q c.loop-known.pc c.in-Some.known) inv.same.says (known_some c.loop-known.dwarf.arch (contents_of c.loop-known.dwarf) c.loop-known.pc c.in_ok-known.field-0 c.in-Some.known c.in-Some.is c.in_ok-known.ensures.known) in
    alike_on c.loop-known.dwarf.arch c.args.said c.in-Some.known (contents_of c.args.dwarf.now) c.args.from c.loop-known.pc (c.args.last + 1) (omega (arith, c.if-known-last.true)) inv.compared there (c.if-not-recover_alike.ensures.alike refl)

-- ---- the next address
pub loop-known-preserved : goal.loop-known-preserved
loop-known-preserved c =
    let inv = c.loop-known.invariant in
    let there = subst (λ (q : Answers). IsKnownUpTo c.loop-known.dwarf.arch q c.loop-known.pc c.in-Some.known) inv.same.says (known_some c.loop-known.dwarf.arch (contents_of c.loop-known.dwarf) c.loop-known.pc c.in_ok-known.field-0 c.in-Some.known c.in-Some.is c.in_ok-known.ensures.known) in
    record {
      from = omega (arith, inv.from, there.from_here);
      to = omega (arith, c.if-known-last.false);
      same = same_again _ _ _ inv.same c.in_ok-known.ensures.same;
      ready = later _ _ _ c.in_ok-known.ensures.ready (omega (arith, there.from_here));
      compared = alike_on c.loop-known.dwarf.arch c.args.said c.in-Some.known (contents_of c.args.dwarf.now) c.args.from c.loop-known.pc (c.in-Some.known.last + 1) (omega arith) inv.compared there (c.if-not-recover_alike.ensures.alike refl);
    }
