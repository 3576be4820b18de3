use Rattle.std.proofs.Common.{◌≡◌, ℕ, ◌<◌, false, length, take, get_or}
use Rattle.dcr_nest.specs.Nest.{parents_of}
use Rattle.dcr_nest.specs.Tree.{is_parent}
use Rattle.dcr_nest.proofs.tree.parent_marks.Given as goal

abbrev pub invariant-loop-node : goal.invariant-loop-node
invariant-loop-node l = record {
  len : length l.marks ≡ 2048;
  marks : (x : ℕ) → x < 2048 → get_or l.marks x false ≡ is_parent (take l.node-index (parents_of l.nodes)) x;
}
