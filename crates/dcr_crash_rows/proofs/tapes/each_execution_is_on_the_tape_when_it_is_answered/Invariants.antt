use Rattle.std.specs.Prelude.{Some}
use Rattle.dcr_cluster_rows.specs.Made.{cluster_of}
use Rattle.dcr_crash_rows.proofs.tapes.each_execution_is_on_the_tape_when_it_is_answered.Given as goal

abbrev pub ghosts-counted-N-TurnName : goal.ghosts-counted-N-TurnName
ghosts-counted-N-TurnName g a = record { turn = a.parts.blank; capacity = 100 }

abbrev pub ghosts-counted-N-ClusterName : goal.ghosts-counted-N-ClusterName
ghosts-counted-N-ClusterName g a = record { cluster = cluster_of a.case.now a.old.now }

abbrev pub ghosts-counted-N-StoreName : goal.ghosts-counted-N-StoreName
ghosts-counted-N-StoreName g a = record { first = Some a.store }
