use Rattle.dcr_turn.proofs.ledger.Ledger.dismiss_row.Given as goal

abbrev pub ghosts-part : goal.ghosts-part
ghosts-part g a = record { place = 1 }
