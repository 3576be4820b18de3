use Rattle.dcr_talk.proofs.TalkLemmas.{in_order}
use Rattle.dcr_talk.proofs.laws.answers_come_in_order.Goals as goal

pub returns : goal.returns
returns c = λ G S node asked more. in_order G S node asked more
