use Rattle.std.specs.Prelude.{Some}
use Rattle.dcr_engine.specs.Ran.{cluster_of}
use Rattle.dcr_engine.specs.Served.{most_served}
use Rattle.dcr_engine.proofs.serve.serve_case.Given as goal

abbrev pub ghosts-in_cluster-N-TurnName : goal.ghosts-in_cluster-N-TurnName
ghosts-in_cluster-N-TurnName g a = record { turn = a.blank; capacity = most_served }

abbrev pub ghosts-in_cluster-N-ClusterName : goal.ghosts-in_cluster-N-ClusterName
ghosts-in_cluster-N-ClusterName g a = record { cluster = cluster_of a.graph.now a.cover.now a.opening.now a.old.now }

abbrev pub ghosts-in_cluster-N-StoreName : goal.ghosts-in_cluster-N-StoreName
ghosts-in_cluster-N-StoreName g a = record { first = Some a.store }
