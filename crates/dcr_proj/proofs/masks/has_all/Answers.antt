use Rattle.std.proofs.Common.{not, is_some, sym, ap, ◌∙◌}
use Rattle.dcr_set.specs.EventSet.{Set, first_in_both_without}
use Rattle.dcr_proj.proofs.MaskLemmas.{none_lacks, lacks_none, not_true}
use Rattle.dcr_proj.proofs.masks.has_all.Goals as goal

pub returns-clause-all : goal.returns-clause-all
returns-clause-all c = λ none.
    none_lacks c.args.other.now c.args.set.now (ap is_some (sym c.first_common_without.ensures) ∙ c.is_none.ensures ∙ ap not none)

pub returns-clause-same : goal.returns-clause-same
returns-clause-same c = λ same.
    not_true c.is_none.result (sym c.is_none.ensures ∙ ap is_some c.first_common_without.ensures ∙ ap (λ (s : Set). is_some (first_in_both_without c.args.other.now c.args.other.now s)) same
    ∙ lacks_none c.args.other.now)
