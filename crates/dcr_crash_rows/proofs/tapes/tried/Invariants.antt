use Rattle.std.specs.Prelude.{Some}
use Rattle.dcr_cluster_rows.specs.Made.{cluster_of}
use Rattle.dcr_crash_rows.proofs.tapes.tried.Given as goal

abbrev pub ghosts-open_only-N-TurnName : goal.ghosts-open_only-N-TurnName
ghosts-open_only-N-TurnName a = record { turn = a.parts.blank; capacity = 0 }

abbrev pub ghosts-open_only-N-ClusterName : goal.ghosts-open_only-N-ClusterName
ghosts-open_only-N-ClusterName a = record { cluster = cluster_of a.case.now a.old.now }

abbrev pub ghosts-open_only-N-StoreName : goal.ghosts-open_only-N-StoreName
ghosts-open_only-N-StoreName a = record { first = Some a.store }
