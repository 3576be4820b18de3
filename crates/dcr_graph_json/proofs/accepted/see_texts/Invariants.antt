use Rattle.std.proofs.Common.{take}
use Rattle.std.specs.List.{All}
use Rattle.dcr_graph_json.proofs.SeenLemmas.{IsSeen}
use Rattle.dcr_graph_json.proofs.accepted.see_texts.Given as goal

abbrev pub invariant-loop-node : goal.invariant-loop-node
invariant-loop-node l = All IsSeen (take l.node-index l.nodes)
