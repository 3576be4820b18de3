use Rattle.std.proofs.Common.{◌≡◌, map}
use Rattle.std.specs.List.{range_with_len}
use Rattle.dcr_part.specs.Read.{stand_in}
use Rattle.dcr_part.proofs.graph.stand_ins.Given as goal

abbrev pub invariant-loop-number : goal.invariant-loop-number
invariant-loop-number l = l.names.items ≡ map stand_in (range_with_len 0 l.number)
