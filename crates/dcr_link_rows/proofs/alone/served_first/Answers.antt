use Rattle.dcr_link_rows.proofs.alone.served_first.Goals as goal

pub serve_first-requires-clause-begins : goal.serve_first-requires-clause-begins
serve_first-requires-clause-begins g c κs within = c.no_tape.ensures _
