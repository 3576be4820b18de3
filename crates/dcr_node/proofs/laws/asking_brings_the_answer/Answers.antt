use Rattle.dcr_node.proofs.AskingLemmas.{all_answers, asking_all}
use Rattle.dcr_node.proofs.laws.asking_brings_the_answer.Goals as goal

pub returns : goal.returns
returns c = record { answers = all_answers; asking = asking_all }
