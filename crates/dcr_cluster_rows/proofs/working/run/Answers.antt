use Rattle.std.proofs.Common.{[], arith}
use Rattle.dcr_cluster_rows.proofs.MadeLemmas.{ended}
use Rattle.dcr_cluster_rows.proofs.working.run.Goals as goal

pub returns : goal.returns
returns g c = ended _ _ c.args.case.now [] _ _ _ _ _ _ _ _ _ c.requires.cluster c.requires.parts (omega arith) c.close-closed.ensures
