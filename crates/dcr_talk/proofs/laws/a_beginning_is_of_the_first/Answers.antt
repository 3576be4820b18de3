use Rattle.dcr_talk.proofs.FrameLemmas.{beginning}
use Rattle.dcr_talk.proofs.laws.a_beginning_is_of_the_first.Goals as goal

pub returns : goal.returns
returns c = λ heard unheard whole behind asked messages spelled others none same. beginning heard unheard whole behind asked messages spelled others none same
