use Rattle.dcr_turn_rows.proofs.two.two_passes.Given as goal

abbrev pub ghosts-both : goal.ghosts-both
ghosts-both g a = record { turn = a.blank; capacity = 3 }
