use Rattle.dcr_set.proofs.NumbersLemmas.{numbers-ascend, numbers-below, member_from_numbers, numbers_from_member, first_of_numbers, set_from_numbers}
use Rattle.dcr_set.proofs.laws.set_is_its_numbers.Goals as goal

pub returns-clause-ascending : goal.returns-clause-ascending
returns-clause-ascending c = numbers-ascend

pub returns-clause-below : goal.returns-clause-below
returns-clause-below c = numbers-below

pub returns-clause-members : goal.returns-clause-members
returns-clause-members c = λ s e. (member_from_numbers s e, numbers_from_member s e)

pub returns-clause-first : goal.returns-clause-first
returns-clause-first c = first_of_numbers

pub returns-clause-determined : goal.returns-clause-determined
returns-clause-determined c = set_from_numbers
