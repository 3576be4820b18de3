use Rattle.std.proofs.Common.{◌≡◌, [], map, take, get_or}
use Rattle.dcr_nest.specs.Nest.{names_of}
use Rattle.dcr_nest.proofs.flatten.names.Given as goal

abbrev pub invariant-loop-x : goal.invariant-loop-x
invariant-loop-x l = l.names.items ≡ map (λ x. get_or (names_of l.nodes) x []) (take l.x-index l.atoms)
