use Rattle.std.specs.Prelude.{[], Some}
use Rattle.dcr_cluster_rows.specs.Made.{cluster_of}
use Rattle.dcr_cluster_rows.proofs.working.worked.Given as goal

abbrev pub ghosts-run-N-TurnName : goal.ghosts-run-N-TurnName
ghosts-run-N-TurnName g a = record { turn = a.parts.blank; capacity = a.capacity }

abbrev pub ghosts-run-N-ClusterName : goal.ghosts-run-N-ClusterName
ghosts-run-N-ClusterName g a = record { cluster = cluster_of a.case.now [] }

abbrev pub ghosts-run-N-StoreName : goal.ghosts-run-N-StoreName
ghosts-run-N-StoreName g a = record { first = Some a.store }
