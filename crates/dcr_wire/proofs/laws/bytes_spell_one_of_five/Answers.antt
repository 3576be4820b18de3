use Rattle.dcr_wire.proofs.AnswerLemmas.{length_is_told, spell_one_sent}
use Rattle.dcr_wire.proofs.laws.bytes_spell_one_of_five.Goals as goal

pub returns : goal.returns
returns c = record { length = length_is_told; one = spell_one_sent }
