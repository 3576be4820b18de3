use Rattle.std.proofs.Common.{◌≡◌, ◌&&◌, length, subst, ◌∙◌}
use Rattle.dcr_set.specs.Least.{least}
use Rattle.dcr_set.specs.EventSet.{has}
use Rattle.dcr_graph.specs.GraphValue.{rules_of}
use Rattle.dcr_graph.specs.Cause.{is_pending_milestone}
use Rattle.dcr_graph.specs.declared.kind.Kind.TheVariants.{Milestone}
use Rattle.dcr_set.proofs.ToldLemmas.{least_told}
use Rattle.dcr_mark.proofs.plain.Plain.pending_milestone.Goals as goal

pub returns : goal.returns
returns c =
    let g = c.self.inside.graph.now in let M = c.self.inside.marking in
    subst (λ at. c.first_common_three.result ≡ least (length at.graph.names) (is_pending_milestone (rules_of at.graph) at.marking c.args.e)) c.self.view_is
    (c.first_common_three.ensures
    ∙ least_told (length g.names) c.sources.result.now (λ k. (rules_of g).related Milestone k c.args.e) c.sources.ensures.sources (λ k. has M.included k && has M.pending k))
