use Rattle.std.proofs.Common.{None, sym, ◌∙◌, arith}
use Rattle.std.proofs.lemmas.List.{get_or_read}
use Rattle.dcr_part.proofs.NameLemmas.{none_repeated}
use Rattle.dcr_part.proofs.names.is_repeated.Goals as goal

pub returns-in-None-clause-repeated : goal.returns-in-None-clause-repeated
returns-in-None-clause-repeated c =
    sym (none_repeated c.args.names.now c.args.i (sym (get_or_read c.args.names.now c.args.i c.index-names-i.result (omega arith) c.index-names-i.is None) ∙ c.in-None.is))
