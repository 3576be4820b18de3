use Rattle.std.specs.Prelude.{[], Some}
use Rattle.dcr_cluster_rows.specs.Made.{cluster_of}
use Rattle.dcr_link_rows.proofs.serving.served.Given as goal

abbrev pub ghosts-serve-N-TurnName : goal.ghosts-serve-N-TurnName
ghosts-serve-N-TurnName g a = record { turn = a.parts.blank; capacity = a.capacity }

abbrev pub ghosts-serve-N-ClusterName : goal.ghosts-serve-N-ClusterName
ghosts-serve-N-ClusterName g a = record { cluster = cluster_of a.accepted.now.case [] }

abbrev pub ghosts-serve-N-StoreName : goal.ghosts-serve-N-StoreName
ghosts-serve-N-StoreName g a = record { first = Some a.store }
