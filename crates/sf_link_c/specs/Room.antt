-- A section that is written into the caller's room: whole, or not at all.
use Rattle.std.specs.Prelude.{ℕ, List, ◌++◌, length, drop, nat_le, if◌then◌else◌}

-- the header's number of the answer: 0, or 1 where the room is too short
abbrev pub room_answer : (section : List ℕ) → (room : ℕ) → ℕ
room_answer section room = if nat_le (length section) room then 0 else 1

-- the room: the section and what was after it, or as it was
abbrev pub section_written : (section before : List ℕ) → List ℕ
section_written section before = if nat_le (length section) (length before) then section ++ drop (length section) before else before
