use Rattle.std.proofs.Common.{◌≡◌, ℕ, ◌<◌, Some}
use Rattle.dcr_nest.specs.Nest.{parents_of}
use Rattle.dcr_nest.specs.Tree.{parent_of}
use Rattle.dcr_graph_rows.proofs.nest.are_earlier.Given as goal

abbrev pub invariant-loop-x : goal.invariant-loop-x
invariant-loop-x l = (k p : ℕ) → k < l.x → parent_of (parents_of l.nodes) k ≡ Some p → p < k
