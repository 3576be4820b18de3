use Rattle.std.proofs.Common.{◌≡◌, true, take}
use Rattle.std.specs.List.{All}
use Rattle.dcr_graph.specs.Names.{is_name}
use Rattle.dcr_nest.specs.declared.node.Node.{Node}
use Rattle.dcr_cover_json.proofs.read.see_names.Given as goal

abbrev pub invariant-loop-node : goal.invariant-loop-node
invariant-loop-node l = All (λ (node : Node). is_name node.name ≡ true) (take l.node-index l.nodes)
