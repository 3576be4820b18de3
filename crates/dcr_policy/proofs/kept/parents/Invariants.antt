use Rattle.std.proofs.Common.{◌≡◌, take}
use Rattle.dcr_nest.specs.Nest.{parents_of}
use Rattle.dcr_policy.proofs.kept.parents.Given as goal

abbrev pub invariant-loop-node : goal.invariant-loop-node
invariant-loop-node l = l.parents.items ≡ parents_of (take l.node-index l.nodes)
