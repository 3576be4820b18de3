use Rattle.std.specs.Prelude.{[], Some}
use Rattle.dcr_cluster_rows.specs.Made.{cluster_of}
use Rattle.dcr_link_rows.proofs.alone.served_first.Given as goal

abbrev pub ghosts-serve_first-N-TurnName : goal.ghosts-serve_first-N-TurnName
ghosts-serve_first-N-TurnName g a = record { turn = a.parts.blank; capacity = 100 }

abbrev pub ghosts-serve_first-N-ClusterName : goal.ghosts-serve_first-N-ClusterName
ghosts-serve_first-N-ClusterName g a = record { cluster = cluster_of a.accepted.now.case [] }

abbrev pub ghosts-serve_first-N-StoreName : goal.ghosts-serve_first-N-StoreName
ghosts-serve_first-N-StoreName g a = record { first = Some a.store }
