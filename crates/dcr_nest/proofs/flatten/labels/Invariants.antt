use Rattle.std.proofs.Common.{◌≡◌, [], map, take, get_or}
use Rattle.dcr_nest.specs.Nest.{labels_of}
use Rattle.dcr_nest.proofs.flatten.labels.Given as goal

abbrev pub invariant-loop-x : goal.invariant-loop-x
invariant-loop-x l = l.labels.items ≡ map (λ x. get_or (labels_of l.nodes) x []) (take l.x-index l.atoms)
