use Rattle.std.proofs.Common.{◌≡◌, ◌<◌, ◌-◌}
use Rattle.sf_decode.specs.Bounds.{bounds_of}
use Rattle.sf_decode.specs.Checking.{each_from}
use Rattle.sf_decode.specs.Entry.{entry_check, entry_place}
use Rattle.sf_decode.proofs.parsing.check_entries.Given as goal

abbrev pub invariant-loop-i : goal.invariant-loop-i
invariant-loop-i l =
    (each_from l.i (l.count - l.i) (entry_check l.bytes l.at) ≡ each_from 0 l.count (entry_check l.bytes l.at))
    × (0 < l.i → l.before ≡ bounds_of l.bytes l.at (entry_place l.bytes (l.i - 1)))
