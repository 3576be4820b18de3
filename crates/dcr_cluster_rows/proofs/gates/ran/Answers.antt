use Rattle.dcr_cluster_rows.proofs.gates.ran.Goals as goal

pub run-requires-clause-begins : goal.run-requires-clause-begins
run-requires-clause-begins g c κs within = c.no_tape.ensures _
