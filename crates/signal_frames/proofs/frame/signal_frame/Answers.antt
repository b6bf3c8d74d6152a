use Rattle.std.proofs.Common.{◌≡◌, None, Some, ◌∙◌}
use Rattle.sf_bytes.specs.Cursor.{cursor}
use Rattle.cfa_insn.specs.Listing.{listing}
use Rattle.signal_frames.specs.Rules.{rules_view}
use Rattle.signal_frames.specs.SignalFrame.{latest_rules}
use Rattle.signal_frames.proofs.Frames.{found_if, has_constants, has_rules}
use Rattle.signal_frames.proofs.frame.signal_frame.Goals as goal

pub returns-in_err-rules-clause-only : goal.returns-in_err-rules-clause-only
returns-in_err-rules-clause-only c = λ common f are h.
    let own = listing (cursor c.args.own) in
    absurd (let no : None ≡ Some (latest_rules h.instructions) = c.in_err-rules.ensures common are ∙ has_rules c.args.arch c.args.facts.now common own f h in cc)

pub returns-clause-found : goal.returns-clause-found
returns-clause-found c = λ common are.
    let own = listing (cursor c.args.own) in
    found_if c.args.arch c.args.facts.now common own (rules_view c.in_ok-rules.rules) c.frame_by.result (c.is_signal.ensures.found c.if-not-is_signal.false) (c.in_ok-rules.ensures common are) c.frame_by.ensures.found

pub returns-clause-only : goal.returns-clause-only
returns-clause-only c = λ common f are h.
    let own = listing (cursor c.args.own) in
    c.frame_by.ensures.only f (has_constants c.args.arch c.args.facts.now common own (rules_view c.in_ok-rules.rules) f (c.in_ok-rules.ensures common are) h)
