use Rattle.dcr_cluster_rows.proofs.AnsweredLemmas.{told_fits}
use Rattle.dcr_cluster_rows.proofs.playing.make_call.Goals as goal

pub told-requires : goal.told-requires
told-requires g c = told_fits _ c.requires.cluster.0 _ _ _ _ _ _ _ c.requires.cluster.1 c.requires.case c.call-answer.ensures.answered
