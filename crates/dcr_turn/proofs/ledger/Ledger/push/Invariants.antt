use Rattle.dcr_turn.proofs.ledger.Ledger.push.Given as goal

abbrev pub ghosts-publish : goal.ghosts-publish
ghosts-publish g a = record { entry = record { session = a.session; seq = a.seq; call = a.call.now; outcome = a.outcome.now } }
