use Rattle.std.specs.Prelude.{string_bytes}
use Rattle.std.proofs.Common.{◌++◌, ℕ, List, ap, sym}
use Rattle.sf_text.specs.FileFrames.{file_frame_line, file_frame_view}
use Rattle.sf_text.proofs.FrameLines.{lines_seen, next_line, no_line}
use Rattle.sf_text.proofs.file_frames.push_frames.Goals as goal

pub loop-number-init : goal.loop-number-init
loop-number-init c = ap (λ (lines : List ℕ). string_bytes c.args.text.now ++ lines) (sym (lines_seen file_frame_view file_frame_line 0 c.args.frames.now))

pub loop-number-preserved : goal.loop-number-preserved
loop-number-preserved c =
    next_line (λ n f. file_frame_line n (file_frame_view f)) c.args.frames.now c.loop-number.number _ (string_bytes c.loop-number.text) (string_bytes c.push_frame.new.text) _ c.loop-number-test.true c.in_ok-push_frame.ensures c.loop-number.invariant

pub returns : goal.returns
returns c = no_line (λ n f. file_frame_line n (file_frame_view f)) c.args.frames.now c.loop-number.number (string_bytes c.loop-number.text) _ c.loop-number-test.false c.loop-number.invariant
