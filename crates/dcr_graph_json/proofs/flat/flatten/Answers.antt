use Rattle.std.proofs.Common.{subst}
use Rattle.dcr_graph.specs.Pairs.{first_clash, TellsClash}
use Rattle.dcr_nest.specs.FlatRelation.{flat_relation}
use Rattle.dcr_graph_json.proofs.FlatLemmas.{atoms_within, stop_told}
use Rattle.dcr_graph_json.proofs.flat.flatten.Goals as goal

pub refused-requires : goal.refused-requires
refused-requires c = λ a b same.
    let N = c.args.nested.now in
    atoms_within N a b (subst (TellsClash (first_clash (flat_relation N))) same c.in-Err.ensures.clash)

pub returns-in-Err-clause-fact : goal.returns-in-Err-clause-fact
returns-in-Err-clause-fact c = λ memory. stop_told c.args.nested.now c.in-Err.stop c.refused.result c.in-Err.ensures.clash (c.refused.ensures.clash memory) c.refused.ensures.no_memory memory
