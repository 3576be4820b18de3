use Rattle.std.proofs.Common.{arith}
use Rattle.dcr_set.proofs.BitLemmas.{bit-past}
use Rattle.dcr_set.proofs.words.subtract.Goals as goal

pub subtract_below-requires-else-room-le256-clause-clear : goal.subtract_below-requires-else-room-le256-clause-clear
subtract_below-requires-else-room-le256-clause-clear c = λ k past. bit-past _ k (omega arith)
