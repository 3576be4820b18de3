use Rattle.std.proofs.Common.{◌≡◌, map, take}
use Rattle.dcr_graph.specs.Pairs.{Pair}
use Rattle.dcr_nest.proofs.flatten.turned.Given as goal

abbrev pub invariant-loop-pair : goal.invariant-loop-pair
invariant-loop-pair l = l.turned.items ≡ map (λ (pair : Pair). (pair.0, pair.2, pair.1)) (take l.pair-index l.relations)
