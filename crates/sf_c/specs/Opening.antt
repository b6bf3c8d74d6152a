-- What opening returns: the number of the first fault and its place (the numbers are those of the line of a refused section).
use Rattle.std.specs.Prelude.{ℕ, List, [], Option, Some, None, Ok, Err}
use Rattle.sf_model.specs.Table.{Table}
use Rattle.sf_decode.specs.Checking.{Check}
use Rattle.sf_decode.specs.Decoding.{table_in}
use Rattle.sf_decode.specs.FaultShown.{number_of, place_of}

-- the number of a fault, 0 if there is no fault
abbrev pub fault_number : Check → ℕ
fault_number (Ok x) = 0
fault_number (Err fault) = number_of fault

-- a fault's place in the section, 0 if there is no fault
abbrev pub fault_place : Check → ℕ
fault_place (Ok x) = 0
fault_place (Err fault) = place_of fault

-- the table of bytes at an address, if there is no fault
abbrev pub table_if_sound : Check → List ℕ → (at : ℕ) → Option Table
table_if_sound (Ok x) bytes at = Some (table_in bytes at)
table_if_sound (Err fault) bytes at = None

-- the bytes that are lent to a section from then on: those that were checked, or no bytes if there is a fault
abbrev pub bytes_if_sound : Check → List ℕ → List ℕ
bytes_if_sound (Ok x) bytes = bytes
bytes_if_sound (Err fault) bytes = []
