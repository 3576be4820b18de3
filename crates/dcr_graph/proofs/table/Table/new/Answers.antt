use Rattle.dcr_graph.proofs.TableLemmas.{empty_table}
use Rattle.dcr_graph.proofs.table.Table.new.Goals as goal

pub invariant_of-result : goal.invariant_of-result
invariant_of-result c = empty_table _ c.args.atoms c.requires c.in_ok-targets.ensures c.in_ok-sources.ensures
