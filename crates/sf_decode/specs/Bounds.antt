-- Inside the crate. Where the function of an entry starts and ends, both moved up by 2^31.
use Rattle.std.specs.Prelude.{ℕ, List}
use Rattle.sf_decode.specs.declared.entry.Bounds.{Bounds}
use Rattle.sf_decode.specs.Entry.{raised_start, raised_end}

-- where the function of the entry at a place starts and ends
abbrev pub bounds_of : List ℕ → (at place : ℕ) → Bounds
bounds_of bytes at place = record { start = raised_start bytes at place; end = raised_end bytes at place }
