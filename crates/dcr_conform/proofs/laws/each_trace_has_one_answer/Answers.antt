use Rattle.dcr_conform.proofs.JudgeLemmas.{is_judged, same_answer, walked}
use Rattle.dcr_conform.proofs.laws.each_trace_has_one_answer.Goals as goal

pub returns-clause-some : goal.returns-clause-some
returns-clause-some c = λ graph M texts. (walked graph M 0 texts, is_judged graph M texts)

pub returns-clause-one : goal.returns-clause-one
returns-clause-one c = same_answer
