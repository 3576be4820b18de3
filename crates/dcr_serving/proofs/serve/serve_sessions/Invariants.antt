use Rattle.dcr_serving.proofs.serve.serve_sessions.Given as goal

abbrev pub ghosts-at_desk-M-DeskName : goal.ghosts-at_desk-M-DeskName
ghosts-at_desk-M-DeskName g a = record { items = g.N.TurnName.turn.sessions; faults = g.B.Door.tells.faults a.door; links = g.B.Door.tells.links a.door }

abbrev pub ghosts-at_desk-M-Ledger : goal.ghosts-at_desk-M-Ledger
ghosts-at_desk-M-Ledger g a = record { name = a.blank.name; parts = a.blank.parts }
