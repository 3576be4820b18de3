use Rattle.std.proofs.Common.{◌≡◌, map}
use Rattle.std.specs.List.{range_with_len}
use Rattle.dcr_nest.specs.Tree.{is_at_or_below}
use Rattle.dcr_nest.proofs.tree.below_marks.Given as goal

abbrev pub invariant-loop-x : goal.invariant-loop-x
invariant-loop-x l = l.marks.items ≡ map (λ x. is_at_or_below l.parents x l.node) (range_with_len 0 l.x)
