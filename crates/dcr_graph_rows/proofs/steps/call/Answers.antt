use Rattle.std.proofs.Common.{sym, ◌∙◌}
use Rattle.dcr_graph.specs.GraphValue.{rules_of}
use Rattle.dcr_node.proofs.RightLemmas.{right_atoms}
use Rattle.dcr_graph_rows.proofs.steps.call.Goals as goal

pub is_call-requires-clause-atoms : goal.is_call-requires-clause-atoms
is_call-requires-clause-atoms c =
    c.atoms.ensures.atoms ∙ sym (right_atoms (rules_of c.args.graph.now) c.args.cover.now.owned c.args.world.now.opening c.args.world.now c.requires.right)
