use Rattle.dcr_turn_rows.proofs.many.eight_threads_push_100_000_entries.Given as goal

abbrev pub ghosts-race : goal.ghosts-race
ghosts-race g a = record { turn = a.blank; capacity = 100000 }
