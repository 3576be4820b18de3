use Rattle.std.proofs.Common.{◌≡◌, map}
use Rattle.std.specs.List.{range_with_len}
use Rattle.dcr_nest.specs.FlatRelation.{related_rows}
use Rattle.dcr_nest.proofs.flatten.tables.Given as goal

abbrev pub invariant-loop-kind : goal.invariant-loop-kind
invariant-loop-kind l = l.tables.items ≡ map (related_rows l.tree l.relations) (range_with_len 0 l.kind)
