use Rattle.dcr_node.specs.WorldState.{site_at}
use Rattle.dcr_node.proofs.LawLemmas.{node_at_opening}
use Rattle.dcr_talk.proofs.TalkLemmas.{all_true}
use Rattle.dcr_talk.proofs.laws.answers_are_true.Goals as goal

pub returns : goal.returns
returns c = λ G C M j i asked right below are. all_true G C M j right i below asked (site_at G C M i) (node_at_opening G C M j i) are
