use Rattle.std.proofs.Common.{◌≡◌, None, Some, subst}
use Rattle.std.specs.Option.{option_map}
use Rattle.signal_frames.specs.Rules.{rule_view}
use Rattle.signal_frames.specs.SignalFrame.{IsFrameAddress}
use Rattle.signal_frames.proofs.frame.is_frame_address.Goals as goal

pub returns-in-None-clause-only : goal.returns-in-None-clause-only
returns-in-None-clause-only c = λ h.
    let constant = c.args.constant in
    let saved = subst (λ (rule : _). IsFrameAddress constant (option_map rule_view rule)) c.in-Some.is h in
    absurd (let no : None ≡ Some constant = c.in-None.ensures.only constant saved in cc)
