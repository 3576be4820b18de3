-- The names before this place are noted anew.
use Rattle.std.proofs.Common.{take}
use Rattle.dcr_log.specs.Gathered.{AreNoted, names_of}
use Rattle.dcr_log.proofs.gathering.Gathering.make_room.Given as goal

abbrev pub invariant-loop-place : goal.invariant-loop-place
invariant-loop-place l = AreNoted l.places (take l.place (names_of l.self.traces.items))
