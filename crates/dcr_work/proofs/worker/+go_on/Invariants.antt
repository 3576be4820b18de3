use Rattle.std.proofs.Common.{length}
use Rattle.dcr_work.proofs.worker.+go_on.Given as goal

abbrev pub decreases-go_on : goal.decreases-go_on
decreases-go_on g l = length l.left.now
