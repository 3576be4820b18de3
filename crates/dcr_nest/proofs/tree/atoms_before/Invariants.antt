use Rattle.std.proofs.Common.{◌≡◌, ◌≤◌, false, not, length, filter, get_or}
use Rattle.std.specs.List.{range_with_len}
use Rattle.dcr_nest.proofs.tree.atoms_before.Given as goal

abbrev pub invariant-loop-x : goal.invariant-loop-x
invariant-loop-x l = record {
  counted : l.count ≡ length (filter (λ x. not (get_or l.marks x false)) (range_with_len 0 l.x));
  most : l.count ≤ l.x;
}
