use Rattle.dcr_set.proofs.BitLemmas.{bit-test}
use Rattle.dcr_set.proofs.words.test_bit.Goals as goal

pub returns : goal.returns
returns c = bit-test c.args.words.now c.args.e c.from.result c.from-2.result c.from.ensures c.from-2.ensures
