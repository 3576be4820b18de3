use Rattle.dcr_cover_json.proofs.RefusalLemmas.{from_words, to_words}
use Rattle.dcr_cover_json.proofs.laws.refusals_of_covers.Goals as goal

pub returns : goal.returns
returns c = λ N sites fact. (to_words N sites fact, from_words N sites fact)
