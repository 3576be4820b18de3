use Rattle.std.proofs.Common.{◌≡◌, List, [], ◌∙◌, sym, subst}
use Rattle.dcr_turn.specs.FrontValue.{FrontValue}
use Rattle.dcr_cell.specs.Asking.{Found}
use Rattle.dcr_cluster.proofs.NeededLemmas.{found_nowhere}
use Rattle.dcr_cluster.proofs.cluster.Cluster.make.Goals.{then-needed-gt1+in_default, else-needed-gt1}
use Rattle.dcr_cluster.proofs.cluster.Cluster.make.Goals as goal

pub gather-requires-clause-found : goal.gather-requires-clause-found
gather-requires-clause-found g c =
    let none : c.if-needed-gt1.fronts ≡ [] = elim c.if-needed-gt1.branch [ then-needed-gt1+in_default w ↦ w.fronts-is ∙ w.in_default.ensures.same_fronts ∙ c.requires.none | else-needed-gt1 w ↦ w.fronts-is ∙ c.requires.none ] in
    subst (λ (fronts : List FrontValue). Found g.N.ClusterName.cluster c.args.call.now fronts c.unask.new.found) (sym none)
    (found_nowhere g.N.ClusterName.cluster g.N.TurnName.turn c.args.call.now c.needed-needed.result.now c.unask.new.found c.needed-needed.ensures.sites c.unask.ensures.all c.unask.ensures.nowhere)
