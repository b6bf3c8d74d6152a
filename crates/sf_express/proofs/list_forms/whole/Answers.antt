use Rattle.std.proofs.Common.{◌≡◌, None, rules}
use Rattle.sf_express.specs.Expressed.{reason_of}
use Rattle.sf_express.proofs.Writable.{kept_is_writable}
use Rattle.sf_express.proofs.Changes.{kept_stand_at_changes}
use Rattle.sf_express.proofs.Same.{kept_say_the_same}
use Rattle.sf_express.proofs.list_forms.whole.Goals as goal

pub returns-clause-writable : goal.returns-clause-writable
returns-clause-writable c =
    let none : reason_of c.args.arch c.args.facts.now ≡ None = search rules in
    rw c.function_with.ensures (kept_is_writable _ _ _ _ c.requires none c.in_ok-kept.ensures)

pub returns-clause-same : goal.returns-clause-same
returns-clause-same c = rw c.function_with.ensures (kept_say_the_same _ _ _ _ c.requires c.in_ok-kept.ensures)

pub returns-clause-changes : goal.returns-clause-changes
returns-clause-changes c =
    let none : reason_of c.args.arch c.args.facts.now ≡ None = search rules in
    rw c.function_with.ensures (kept_stand_at_changes c.args.arch c.args.facts.now c.args.rows.now _ c.requires none c.in_ok-kept.ensures)
