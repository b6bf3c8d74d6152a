-- The text of a walk through the files that a process had mapped (Linux core files, NT_FILE): as that of any walk, and with the file that has
-- each frame's program counter, and the address there (ELF64 gABI, "Program Header", "Base Address").
use Rattle.std.specs.Prelude.{◌++◌, ◌+◌, ◌-◌, ◌%◌, ◌^◌, ℕ, Bool, true, false, List, [], codes, Option, Some, None}
use Rattle.std.specs.Option.{option_map}
use Rattle.sf_model.specs.declared.walk.Frame.{Frame}
use Rattle.sf_model.specs.declared.walk.Stop.{Stop}
use Rattle.sf_text.specs.declared.file_frames.FileFrame.{FileFrame}
use Rattle.sf_text.specs.declared.file_frames.ShownFile.{ShownFile}
use Rattle.sf_text.specs.Frames.{frame_words, numbered_lines, stop_line, thread_line}
use Rattle.sf_text.specs.Number.{hexadecimal_text}
use Rattle.sf_text.specs.ShownName.{shown_name}

-- a file: the last part of its name, and how far up it was mapped
pub record FileView : Type 0 where
  pub name : List ℕ
  pub base : ℕ

-- a frame, the file that has its program counter, if one has, and whether it is a signal frame
pub record FileFrameView : Type 0 where
  pub frame : Frame
  pub file : Option FileView
  pub is_signal : Bool

-- the address in a file of a program counter, as its program headers have it
abbrev pub address_in : (base pc : ℕ) → ℕ
address_in base pc = (pc + (2 ^ 64 - base)) % 2 ^ 64

-- ` FILE+ADDRESS`, if a file has the program counter
abbrev pub file_text : (pc : ℕ) → Option FileView → List ℕ
file_text pc (Some file) = codes " " ++ shown_name file.name ++ codes "+" ++ hexadecimal_text (address_in file.base pc)
file_text pc None = []

-- ` signal`, for a signal frame
abbrev pub signal_text : Bool → List ℕ
signal_text true = codes " signal"
signal_text false = []

-- the line of a frame
unfoldable pub file_frame_line : (number : ℕ) → FileFrameView → List ℕ
file_frame_line number f = frame_words number f.frame ++ file_text f.frame.pc f.file ++ signal_text f.is_signal ++ codes "\n"

-- the thread, its frames from 0 on, and the stop
unfoldable pub file_frames_text : (number pid : ℕ) → List FileFrameView → Stop → List ℕ
file_frames_text number pid frames stop = thread_line number pid ++ numbered_lines file_frame_line 0 frames ++ stop_line stop

-- ---- as the code has them
abbrev pub file_view : ShownFile → FileView
file_view file = record { name = file.name.now; base = file.base }

abbrev pub file_frame_view : FileFrame → FileFrameView
file_frame_view f = record { frame = f.frame; file = option_map file_view f.file; is_signal = f.is_signal }
