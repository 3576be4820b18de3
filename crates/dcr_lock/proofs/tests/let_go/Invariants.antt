use Rattle.std.proofs.Common.{vec_len}
use Rattle.dcr_lock.proofs.tests.let_go.Given as goal

abbrev pub decreases-loop-deed : goal.decreases-loop-deed
decreases-loop-deed l = vec_len l.deeds
