use Rattle.std.proofs.Common.{arith}
use Rattle.dcr_set.proofs.BitLemmas.{bit-set_bit}
use Rattle.dcr_set.proofs.words.set_bit.Goals as goal

pub returns-clause-bits : goal.returns-clause-bits
returns-clause-bits c = bit-set_bit c.args.words.now c.args.e c.from-word.result c.from.result (omega arith) c.from-word.ensures c.from.ensures
