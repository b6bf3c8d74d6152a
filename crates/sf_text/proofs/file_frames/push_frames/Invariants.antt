use Rattle.std.proofs.Common.{◌≡◌, ◌++◌, drop, map}
use Rattle.std.specs.Prelude.{string_bytes}
use Rattle.sf_text.specs.FileFrames.{file_frame_line, file_frame_view}
use Rattle.sf_text.specs.Frames.{numbered_lines}
use Rattle.sf_text.proofs.file_frames.push_frames.Given as goal

-- what is there and the lines of the frames that are left are all that is to be there
abbrev pub invariant-loop-number : goal.invariant-loop-number
invariant-loop-number l =
    string_bytes l.text ++ numbered_lines (λ n f. file_frame_line n (file_frame_view f)) l.number (drop l.number l.frames)
    ≡ string_bytes l.initial.text ++ numbered_lines file_frame_line 0 (map file_frame_view l.frames)
