use Rattle.std.proofs.Common.{◌≡◌, None, Some, ap, subst, sym, ◌∙◌}
use Rattle.sf_bytes.specs.Cursor.{cursor}
use Rattle.cfa_insn.specs.Listing.{listing}
use Rattle.frame_functions.specs.Functions.{Function}
use Rattle.frame_functions.specs.Descriptions.{HasInitial, described_function}
use Rattle.signal_frames.specs.declared.frame.SignalFrame.{SignalFrame}
use Rattle.module_tables.specs.Signals.{HasSignalFrame, signal_span}
use Rattle.module_tables.proofs.signals.signal_of.Goals as goal

pub returns-in_default-clause-only : goal.returns-in_default-clause-only
returns-in_default-clause-only c = λ d f h.
    let description = c.get-description.result in
    let commons = c.args.descriptions.now.common in
    let is = c.get-description.ensures d in
    let mine : HasSignalFrame (described_function description) f = subst (λ (g : Function). HasSignalFrame g f) (sym is) h in
    let has : HasInitial commons c.common_number.result (listing (cursor description.initial)) = ap (λ (g : Function). g.initial) is ∙ c.common_number.ensures d in
    let rules = c.in_ok-rules.ensures.rules commons c.requires.kept has in
    absurd (let no : None ≡ Some f = c.in_default.ensures.only (listing (cursor description.initial)) f rules mine in cc)

pub returns-in_default-clause-kept : goal.returns-in_default-clause-kept
returns-in_default-clause-kept c =
    let description = c.get-description.result in
    let commons = c.args.descriptions.now.common in
    let d = described_function description in
    c.in_ok-rules.ensures.kept commons c.requires.kept (ap (λ (g : Function). g.initial) (c.get-description.ensures d) ∙ c.common_number.ensures d)

pub returns-clause-kept : goal.returns-clause-kept
returns-clause-kept c =
    let description = c.get-description.result in
    let commons = c.args.descriptions.now.common in
    let d = described_function description in
    c.in_ok-rules.ensures.kept commons c.requires.kept (ap (λ (g : Function). g.initial) (c.get-description.ensures d) ∙ c.common_number.ensures d)

pub returns-clause-only : goal.returns-clause-only
returns-clause-only c = λ d f h.
    let description = c.get-description.result in
    let commons = c.args.descriptions.now.common in
    let is = c.get-description.ensures d in
    let mine : HasSignalFrame (described_function description) f = subst (λ (g : Function). HasSignalFrame g f) (sym is) h in
    let has : HasInitial commons c.common_number.result (listing (cursor description.initial)) = ap (λ (g : Function). g.initial) is ∙ c.common_number.ensures d in
    let rules = c.in_ok-rules.ensures.rules commons c.requires.kept has in
    let found : Some c.in-Some.found ≡ Some f = c.in-Some.ensures.only (listing (cursor description.initial)) f rules mine in
    let same : c.in-Some.found ≡ f = cc in
    ap (λ (x : SignalFrame). Some (signal_span (described_function description) x)) same ∙ ap (λ (g : Function). Some (signal_span g f)) is
