-- The entries so far are those of the first records.
use Rattle.std.proofs.Common.{◌≡◌, length}
use Rattle.dcr_base.specs.Disk.{Stays}
use Rattle.dcr_tape.specs.Tape.{HasRecords, record_at, size_of}
use Rattle.dcr_tape.specs.Found.{part_found}
use Rattle.dcr_tape.proofs.records.read_records.Given as goal

abbrev pub invariant-loop-number : goal.invariant-loop-number
invariant-loop-number g l = record {
  count : length l.entries.items ≡ l.number;
  place : l.at ≡ record_at (part_found l.part) l.number;
  size : l.size ≡ size_of l.part.width;
  are : HasRecords (g.D.Disk.view l.initial.disk).content (part_found l.part) l.entries.items;
  stays : Stays (g.D.Disk.view l.initial.disk) (g.D.Disk.view l.disk);
  no_fault : g.D.Disk.faults l.disk ≡ g.D.Disk.faults l.initial.disk;
}
