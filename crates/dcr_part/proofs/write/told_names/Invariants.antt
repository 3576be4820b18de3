use Rattle.std.proofs.Common.{◌≡◌, [], Some, None, cond, get_or, map}
use Rattle.std.specs.List.{range_with_len}
use Rattle.dcr_set.specs.EventSet.{has}
use Rattle.dcr_part.proofs.write.told_names.Given as goal

abbrev pub invariant-loop-number : goal.invariant-loop-number
invariant-loop-number l = l.names.items ≡ map (λ e. cond (has l.set e) (Some (get_or l.graph.names e [])) None) (range_with_len 0 l.number)
