use Rattle.dcr_set.proofs.SetLemmas.{length-those}
use Rattle.dcr_set.proofs.StandsLemmas.{nothing_stands, fits_from, set_from}
use Rattle.dcr_set.proofs.set.EventSet.new.Goals as goal

pub invariant_of-result : goal.invariant_of-result
invariant_of-result c = fits_from _ _ _ (nothing_stands c.args.room c.requires)

pub returns-clause-empty : goal.returns-clause-empty
returns-clause-empty c = set_from _ _ _ (nothing_stands c.args.room c.requires)

pub returns-clause-room : goal.returns-clause-room
returns-clause-room c = length-those c.args.room _
