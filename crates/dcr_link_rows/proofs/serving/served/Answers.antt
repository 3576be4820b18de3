use Rattle.dcr_link_rows.proofs.serving.served.Goals as goal

pub serve-requires-clause-begins : goal.serve-requires-clause-begins
serve-requires-clause-begins g c κs within = c.no_tape.ensures _
