use Rattle.dcr_cluster_rows.proofs.playing.without_tape.Goals as goal

pub returns-clause-begins : goal.returns-clause-begins
returns-clause-begins c = c.no_tape.ensures _
