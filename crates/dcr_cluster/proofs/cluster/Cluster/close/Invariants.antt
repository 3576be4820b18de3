use Rattle.std.proofs.Common.{◌≡◌, ◌≤◌, length, vec_len, vec_capacity}
use Rattle.dcr_cluster.proofs.ClosingLemmas.{GaveBack}
use Rattle.dcr_cluster.proofs.cluster.Cluster.close.Given as goal

-- so many sites have given back their cells, for which there is room
abbrev pub invariant-loop : goal.invariant-loop
invariant-loop g l = record {
  places : l.end-2.places ≡ length g.N.ClusterName.cluster.owned;
  emptied : l.end-2.emptied ≡ l.counter;
  gave : GaveBack g.N.ClusterName.cluster l.counter l.fronts.items l.marks.items l.waits;
  fronts : vec_len l.fronts ≡ l.counter;
  marks : vec_len l.marks ≡ l.counter;
  room : length g.N.ClusterName.cluster.owned ≤ vec_capacity l.fronts;
  marks_room : length g.N.ClusterName.cluster.owned ≤ vec_capacity l.marks;
}
