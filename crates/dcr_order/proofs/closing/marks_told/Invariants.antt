use Rattle.std.proofs.Common.{◌≡◌, ◌≤◌, Some, map, take, vec_len, vec_capacity}
use Rattle.dcr_node.specs.declared.gathered.Gathered.{Gathered}
use Rattle.dcr_order.proofs.closing.marks_told.Given as goal

abbrev pub invariant-loop-number : goal.invariant-loop-number
invariant-loop-number l = record {
  told : map Some l.marks.items ≡ map (λ (one : Gathered). one.marks) (take l.number l.node.gathered);
  count : vec_len l.marks ≡ l.number;
  room : l.sites ≤ vec_capacity l.marks;
}
