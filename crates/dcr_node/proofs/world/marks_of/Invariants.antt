use Rattle.std.proofs.Common.{◌≡◌, map, take}
use Rattle.dcr_node.specs.SiteState.{SiteState}
use Rattle.dcr_node.proofs.world.marks_of.Given as goal

abbrev pub invariant-loop-node : goal.invariant-loop-node
invariant-loop-node l = l.marks.items ≡ map (λ (node : SiteState). node.site.mark) (take l.node-index l.nodes)
