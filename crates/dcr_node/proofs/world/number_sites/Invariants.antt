use Rattle.dcr_node.specs.Parts.{AreNumbered}
use Rattle.dcr_node.proofs.world.number_sites.Given as goal

abbrev pub invariant-loop-member : goal.invariant-loop-member
invariant-loop-member l = AreNumbered l.yielded l.nodes.items
