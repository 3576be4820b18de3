use Rattle.std.proofs.Common.{◌≡◌, false, not, filter, get_or}
use Rattle.std.specs.List.{range_with_len}
use Rattle.dcr_nest.proofs.tree.unmarked.Given as goal

abbrev pub invariant-loop-x : goal.invariant-loop-x
invariant-loop-x l = l.nodes.items ≡ filter (λ x. not (get_or l.marks x false)) (range_with_len 0 l.x)
