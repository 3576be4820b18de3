use Rattle.dcr_wire.proofs.SetFormLemmas.{bit_tested}
use Rattle.dcr_wire.proofs.set_bytes.has_bit.Goals as goal

pub returns : goal.returns
returns c = bit_tested c.args.bytes.now c.args.place c.args.number c.from.result c.from-2.result c.from.ensures c.from-2.ensures
