use Rattle.std.proofs.Common.{arith}
use Rattle.dcr_set.proofs.BitLemmas.{bit-past}
use Rattle.dcr_set.proofs.words.unite.Goals as goal

pub unite_below-requires-else-room-le256-clause-clear : goal.unite_below-requires-else-room-le256-clause-clear
unite_below-requires-else-room-le256-clause-clear c = λ k past. bit-past _ k (omega arith)
