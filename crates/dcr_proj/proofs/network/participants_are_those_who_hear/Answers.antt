use Rattle.dcr_proj.proofs.NetworkLemmas.{participant_hears, hears_participant, participants_ascend, participants_below}
use Rattle.dcr_proj.proofs.network.participants_are_those_who_hear.Goals as goal

pub returns-clause-members : goal.returns-clause-members
returns-clause-members c = λ alphabets e i. (participant_hears alphabets e i, hears_participant alphabets e i)

pub returns-clause-ascending : goal.returns-clause-ascending
returns-clause-ascending c = participants_ascend

pub returns-clause-below : goal.returns-clause-below
returns-clause-below c = participants_below
