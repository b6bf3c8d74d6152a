use Rattle.std.specs.Prelude.{string_bytes}
use Rattle.sf_text.specs.Frames.{frame_line}
use Rattle.sf_text.proofs.FrameLines.{next_line, no_line}
use Rattle.sf_text.proofs.frames.push_frames.Goals as goal

pub loop-number-preserved : goal.loop-number-preserved
loop-number-preserved c =
    next_line frame_line c.args.frames.now c.loop-number.number _ (string_bytes c.loop-number.text) (string_bytes c.push_frame.new.text) _ c.loop-number-test.true c.in_ok-push_frame.ensures c.loop-number.invariant

pub returns : goal.returns
returns c = no_line frame_line c.args.frames.now c.loop-number.number (string_bytes c.loop-number.text) _ c.loop-number-test.false c.loop-number.invariant
