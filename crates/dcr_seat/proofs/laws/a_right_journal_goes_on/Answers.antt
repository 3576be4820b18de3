use Rattle.dcr_seat.proofs.RightLemmas.{proposal_right, withdrawal_right, vote_right, answer_right}
use Rattle.dcr_seat.proofs.laws.a_right_journal_goes_on.Goals as goal

pub returns-clause-proposal : goal.returns-clause-proposal
returns-clause-proposal c = λ G C M j p right is. proposal_right G C M j right p is

pub returns-clause-withdrawal : goal.returns-clause-withdrawal
returns-clause-withdrawal c = λ G C M j right. withdrawal_right G C M j right

pub returns-clause-vote : goal.returns-clause-vote
returns-clause-vote c = λ G C M j message right is. vote_right G C M j right message is

pub returns-clause-answer : goal.returns-clause-answer
returns-clause-answer c = λ G C M j a right is. answer_right G C M j right a is
