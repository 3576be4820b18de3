use Rattle.dcr_cluster_rows.proofs.MadeLemmas.{ended}
use Rattle.dcr_cluster_rows.proofs.playing.play.Goals as goal

pub take_steps-requires-clause-cluster : goal.take_steps-requires-clause-cluster
take_steps-requires-clause-cluster g c = (c.args.old.now, c.requires.cluster)

pub returns : goal.returns
returns g c = ended _ _ c.args.case.now c.args.old.now _ _ _ _ _ _ _ _ _ c.requires.cluster c.requires.parts c.requires.few_old c.close.ensures
