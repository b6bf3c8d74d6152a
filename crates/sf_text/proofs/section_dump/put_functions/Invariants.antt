use Rattle.std.proofs.Common.{◌≡◌, take}
use Rattle.std.specs.List.{flat_map}
use Rattle.sf_decode.specs.View.{table_of}
use Rattle.sf_text.specs.Dump.{function_text}
use Rattle.sf_text.specs.Gathered.{Gathers}
use Rattle.sf_text.proofs.section_dump.put_functions.Given as goal

-- the functions so far went through the buffer
abbrev pub invariant-loop-i : goal.invariant-loop-i
invariant-loop-i g l =
    let sink = g.S.Sink in
    record {
      gathered : Gathers ((sink.seen l.fn.sink).written) ((sink.seen l.sink).written) l.fn.buffer.items l.buffer.items (flat_map function_text (take l.i (table_of l.view).functions));
      faults : (sink.seen l.sink).faults ≡ (sink.seen l.fn.sink).faults;
    }
