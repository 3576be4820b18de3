use Rattle.std.proofs.Common.{ap, ◌∙◌}
use Rattle.dcr_set.specs.EventSet.{union}
use Rattle.dcr_set.proofs.ToldLemmas.{union-those, union_set-those}
use Rattle.dcr_proj.proofs.projection.alphabet_of.Goals as goal

pub returns-clause-alphabet : goal.returns-clause-alphabet
returns-clause-alphabet c =
    let pending = c.joined-pending.ensures.joined ∙ ap (λ s. union s c.sources_into-cancels.result) c.sources_into-responses.ensures.sources ∙ ap (union _) c.sources_into-cancels.ensures.sources ∙ union-those _ _ _ in
    let included = c.joined-included.ensures.joined ∙ ap (λ s. union s c.sources_into-excludes.result) c.sources_into-includes.ensures.sources ∙ ap (union _) c.sources_into-excludes.ensures.sources ∙ union-those _ _ _ in
    c.joined-2.ensures.joined
    ∙ ap (union c.args.tracked_in.now) (c.joined.ensures.joined ∙ ap (λ s. union s c.joined-included.result) pending ∙ ap (union _) included ∙ union-those _ _ _)
    ∙ union_set-those c.args.tracked_in.now _ _ c.requires.tracked_in
