use Rattle.std.proofs.Common.{[], arith}
use Rattle.dcr_cluster_rows.proofs.MadeLemmas.{ended}
use Rattle.dcr_link_rows.proofs.serving.serve.Goals as goal

pub expect_valid-requires-clause-run : goal.expect_valid-requires-clause-run
expect_valid-requires-clause-run g c = ended _ _ c.args.accepted.now.case [] _ _ _ _ _ _ _ _ _ c.requires.cluster c.requires.parts (omega arith) c.close-finished.ensures
