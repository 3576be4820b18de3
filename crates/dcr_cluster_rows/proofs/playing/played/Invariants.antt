use Rattle.std.specs.Prelude.{Some}
use Rattle.dcr_cluster_rows.specs.Made.{cluster_of}
use Rattle.dcr_cluster_rows.proofs.playing.played.Given as goal

abbrev pub ghosts-play-N-TurnName : goal.ghosts-play-N-TurnName
ghosts-play-N-TurnName g a = record { turn = a.parts.blank; capacity = a.capacity }

abbrev pub ghosts-play-N-ClusterName : goal.ghosts-play-N-ClusterName
ghosts-play-N-ClusterName g a = record { cluster = cluster_of a.case.now a.old.now }

abbrev pub ghosts-play-N-StoreName : goal.ghosts-play-N-StoreName
ghosts-play-N-StoreName g a = record { first = Some a.store }
