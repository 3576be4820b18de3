use Rattle.dcr_graph.specs.Projection.{FitsAtoms}
use Rattle.dcr_cell.specs.ClusterId.{begun}
use Rattle.dcr_cluster.proofs.OpeningLemmas.{Has}
use Rattle.dcr_cluster.proofs.going_on.marking_of.Given as goal

-- what the sites so far own
abbrev pub invariant-loop-i : goal.invariant-loop-i
invariant-loop-i g l = record {
  fits : FitsAtoms l.atoms l.executed l.pending l.included;
  executed : Has g.N.ClusterName.cluster.rules.atoms g.N.ClusterName.cluster.owned l.i (begun g.N.ClusterName.cluster).executed l.executed;
  pending : Has g.N.ClusterName.cluster.rules.atoms g.N.ClusterName.cluster.owned l.i (begun g.N.ClusterName.cluster).pending l.pending;
  included : Has g.N.ClusterName.cluster.rules.atoms g.N.ClusterName.cluster.owned l.i (begun g.N.ClusterName.cluster).included l.included;
}
