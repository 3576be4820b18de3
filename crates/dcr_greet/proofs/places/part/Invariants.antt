use Rattle.std.proofs.Common.{◌≡◌, length, take, drop}
use Rattle.dcr_greet.proofs.places.part.Given as goal

abbrev pub invariant-bytes : goal.invariant-bytes
invariant-bytes g l = (length l.found ≡ g.row.N) × (take l.i l.found ≡ take l.i (drop l.at l.bytes))
