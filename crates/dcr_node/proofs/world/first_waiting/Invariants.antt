use Rattle.std.proofs.Common.{◌≡◌, List, map, take}
use Rattle.dcr_set.specs.Least.{least}
use Rattle.dcr_set.specs.EventSet.{Set}
use Rattle.dcr_graph.specs.Rules.{Rules}
use Rattle.dcr_graph.specs.declared.marking.Marking.{Marking}
use Rattle.dcr_site.specs.Together.{AllStand, waits_in}
use Rattle.dcr_node.specs.SiteState.{SiteState}
use Rattle.dcr_node.proofs.world.first_waiting.Given as goal

abbrev pub invariant-loop-node : goal.invariant-loop-node
invariant-loop-node l = (G : Rules) (C : List Set) (M : Marking) → AllStand G C M (map (λ (node : SiteState). node.site) l.nodes)
    → l.first ≡ least G.atoms (waits_in (take l.node-index C) M)
