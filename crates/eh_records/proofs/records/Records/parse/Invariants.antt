use Rattle.std.proofs.Common.{◌≡◌, length}
use Rattle.eh_records.specs.LastCie.{IsLastCie}
use Rattle.eh_records.specs.Places.{IsRising, IsBefore}
use Rattle.eh_records.specs.Section.{entries_of, fault_if_any}
use Rattle.eh_records.specs.Step.{reader_cursor}
use Rattle.eh_records.proofs.Faults.{fault_from}
use Rattle.eh_records.proofs.records.Records.parse.Given as goal

abbrev pub invariant-loop-places : goal.invariant-loop-places
invariant-loop-places l = record {
  fault : fault_from l.arch l.bytes l.places.items (reader_cursor l.rest) ≡ fault_if_any (entries_of l.arch l.bytes);
  rising : IsRising l.places.items;
  last : IsLastCie l.arch l.bytes l.last;
  before : IsBefore l.rest.part.place l.places.items;
}

abbrev pub decreases-loop-places : goal.decreases-loop-places
decreases-loop-places l = length l.rest.part.bytes.now
