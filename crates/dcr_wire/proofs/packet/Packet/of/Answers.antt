use Rattle.std.proofs.Common.{sym, subst}
use Rattle.dcr_wire.specs.Form.{Spell}
use Rattle.dcr_wire.proofs.WireLemmas.{means_spelled}
use Rattle.dcr_wire.proofs.packet.Packet.of.Goals as goal

pub invariant_of-result : goal.invariant_of-result
invariant_of-result c =
    subst (Spell c.write_message.result) (sym (means_spelled c.write_message.result c.args.message.now c.write_message.ensures)) c.write_message.ensures

pub returns : goal.returns
returns c = means_spelled c.write_message.result c.args.message.now c.write_message.ensures
