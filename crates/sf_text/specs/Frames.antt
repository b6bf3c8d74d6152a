-- The text of a walk: a line for the thread, a line for each of its frames, and a line on why the walk stopped.
use Rattle.std.specs.Prelude.{◌++◌, ◌+◌, ℕ, List, [], ◌∷◌, codes, Option, Some, None}
use Rattle.std.specs.Fmt.{decimal}
use Rattle.sf_model.specs.declared.walk.Frame.{Frame}
use Rattle.sf_model.specs.declared.walk.Stop.{Stop}
use Rattle.sf_model.specs.declared.walk.Stop.TheVariants.{Depth, Outside, Unreadable, Signed}
use Rattle.sf_text.specs.Number.{hexadecimal_text}

-- `thread NUMBER pid PID`
unfoldable pub thread_line : (number pid : ℕ) → List ℕ
thread_line number pid = codes "thread " ++ decimal number ++ codes " pid " ++ decimal pid ++ codes "\n"

-- ` cfa ADDRESS`, where the canonical frame address is known
abbrev pub cfa_text : Option ℕ → List ℕ
cfa_text (Some address) = codes " cfa " ++ hexadecimal_text address
cfa_text None = []

-- two blanks, `#NUMBER pc PC`, and the canonical frame address
unfoldable pub frame_words : (number : ℕ) → Frame → List ℕ
frame_words number frame = codes "  #" ++ decimal number ++ codes " pc " ++ hexadecimal_text frame.pc ++ cfa_text frame.cfa

-- the line of a frame
unfoldable pub frame_line : (number : ℕ) → Frame → List ℕ
frame_line number frame = frame_words number frame ++ codes "\n"

-- the lines of items that are numbered from `first` on
unfoldable pub numbered_lines : {X : Type 0} → (line : ℕ → X → List ℕ) → (first : ℕ) → List X → List ℕ
numbered_lines line first [] = []
numbered_lines line first (x ∷ items) = line first x ++ numbered_lines line (first + 1) items

-- the lines of frames that are numbered from `first` on
abbrev pub frame_lines : (first : ℕ) → List Frame → List ℕ
frame_lines first frames = numbered_lines frame_line first frames

-- why a walk stopped, with the address
abbrev pub stop_text : Stop → List ℕ
stop_text Depth = codes "depth"
stop_text (Outside address) = codes "outside " ++ hexadecimal_text address
stop_text (Unreadable address) = codes "unreadable " ++ hexadecimal_text address
stop_text (Signed address) = codes "signed " ++ hexadecimal_text address

-- two blanks, and why the walk stopped
unfoldable pub stop_line : Stop → List ℕ
stop_line stop = codes "  stop " ++ stop_text stop ++ codes "\n"

-- the thread, its frames from 0 on, and the stop
unfoldable pub walk_text : (number pid : ℕ) → List Frame → Stop → List ℕ
walk_text number pid frames stop = thread_line number pid ++ frame_lines 0 frames ++ stop_line stop
