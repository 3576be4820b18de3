use Rattle.std.proofs.Common.{length}
use Rattle.dcr_cluster.proofs.cluster.Cluster.+gather.Given as goal

abbrev pub decreases-gather : goal.decreases-gather
decreases-gather g l = length l.left.now
