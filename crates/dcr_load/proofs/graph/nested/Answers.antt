use Rattle.dcr_load.proofs.LoadLemmas.{is_nested_as}
use Rattle.dcr_load.proofs.graph.nested.Goals as goal

pub new-requires : goal.new-requires
new-requires c = is_nested_as c.args.number _ _ c.in_ok-nodes.ensures c.in_ok-relations.ensures
