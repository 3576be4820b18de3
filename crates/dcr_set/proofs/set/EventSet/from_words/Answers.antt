use Rattle.dcr_set.proofs.KeptLemmas.{read_stands}
use Rattle.dcr_set.proofs.StandsLemmas.{fits_from, set_from}
use Rattle.dcr_set.proofs.set.EventSet.from_words.Goals as goal

pub invariant_of-result : goal.invariant_of-result
invariant_of-result c = fits_from _ _ _ (read_stands _ c.args.row.now c.args.place c.args.room c.requires.most c.read.ensures.bits)

pub returns : goal.returns
returns c = set_from _ _ _ (read_stands _ c.args.row.now c.args.place c.args.room c.requires.most c.read.ensures.bits)
