use Rattle.dcr_wire.proofs.WireLemmas.{have_fourteen, spell_one}
use Rattle.dcr_wire.proofs.laws.bytes_spell_messages.Goals as goal

pub returns : goal.returns
returns c = record { fourteen = have_fourteen; one = spell_one }
