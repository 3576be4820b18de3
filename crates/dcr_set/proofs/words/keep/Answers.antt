use Rattle.std.proofs.Common.{arith}
use Rattle.dcr_set.proofs.BitLemmas.{bit-past}
use Rattle.dcr_set.proofs.words.keep.Goals as goal

pub keep_below-requires-else-room-le256-clause-clear : goal.keep_below-requires-else-room-le256-clause-clear
keep_below-requires-else-room-le256-clause-clear c = λ k past. bit-past _ k (omega arith)
