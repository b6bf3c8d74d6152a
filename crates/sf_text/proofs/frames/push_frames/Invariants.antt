use Rattle.std.proofs.Common.{◌≡◌, ◌++◌, drop}
use Rattle.std.specs.Prelude.{string_bytes}
use Rattle.sf_text.specs.Frames.{frame_lines}
use Rattle.sf_text.proofs.frames.push_frames.Given as goal

-- what is there and the lines of the frames that are left are all that is to be there
abbrev pub invariant-loop-number : goal.invariant-loop-number
invariant-loop-number l = string_bytes l.text ++ frame_lines l.number (drop l.number l.frames) ≡ string_bytes l.initial.text ++ frame_lines 0 l.frames
