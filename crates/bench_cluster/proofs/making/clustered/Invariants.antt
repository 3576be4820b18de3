use Rattle.std.specs.Prelude.{[], Some}
use Rattle.dcr_cluster_rows.specs.Made.{cluster_of}
use Rattle.bench_cluster.proofs.making.clustered.Given as goal

abbrev pub ghosts-in_cluster-N-TurnName : goal.ghosts-in_cluster-N-TurnName
ghosts-in_cluster-N-TurnName g a = record { turn = a.parts.blank; capacity = 200000 }

abbrev pub ghosts-in_cluster-N-ClusterName : goal.ghosts-in_cluster-N-ClusterName
ghosts-in_cluster-N-ClusterName g a = record { cluster = cluster_of a.case.now [] }

abbrev pub ghosts-in_cluster-N-StoreName : goal.ghosts-in_cluster-N-StoreName
ghosts-in_cluster-N-StoreName g a = record { first = Some a.store }
