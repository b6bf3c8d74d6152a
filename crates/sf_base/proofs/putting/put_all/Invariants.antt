use Rattle.std.proofs.Common.{◌≡◌, ◌≤◌, ◌-◌, length, take}
use Rattle.sf_base.specs.Written.{Appends}
use Rattle.sf_base.proofs.putting.put_all.Given as goal

-- the first bytes are appended
abbrev pub invariant-loop-done : goal.invariant-loop-done
invariant-loop-done g l =
    let sink = g.S.Sink in
    record {
      within : l.done ≤ length l.bytes;
      appended : Appends ((sink.seen l.fn.sink).written) ((sink.seen l.sink).written) (take l.done l.bytes);
      later : (sink.seen l.sink).faults ≡ (sink.seen l.fn.sink).faults;
    }

abbrev pub decreases-loop-done : goal.decreases-loop-done
decreases-loop-done g l = length l.bytes - l.done
