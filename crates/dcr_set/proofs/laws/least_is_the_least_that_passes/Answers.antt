use Rattle.dcr_set.proofs.LeastLemmas.{least-some, least-from, least-none, least-none_from, some_below-from, some_below-at}
use Rattle.dcr_set.proofs.laws.least_is_the_least_that_passes.Goals as goal

pub returns-clause-found : goal.returns-clause-found
returns-clause-found c = λ n p k. (least-some n p k, least-from n p k)

pub returns-clause-none : goal.returns-clause-none
returns-clause-none c = λ n p. (least-none n p, least-none_from n p)

pub returns-clause-some : goal.returns-clause-some
returns-clause-some c = λ n p. (some_below-from n p, λ found. some_below-at n p found.0 found.1 found.2)
