use Rattle.std.proofs.Common.{◌≡◌, ◌+◌, ◌*◌, ◌≤◌, length}
use Rattle.std.specs.List.{range_with_len}
use Rattle.dcr_graph.specs.Names.{comma_names}
use Rattle.dcr_graph.specs.AtomNamesModel.{AreStarts}
use Rattle.dcr_graph.proofs.atom_names.AtomNames.new.Given as goal

abbrev pub invariant-loop-i : goal.invariant-loop-i
invariant-loop-i l = record {
  joined : l.joined.items ≡ comma_names l.names.items (range_with_len 0 l.i);
  short : length l.joined.items ≤ 65 * l.i;
  as_many : length l.starts.items ≡ l.i + 1;
  starts : AreStarts l.names.items l.starts.items l.i;
}
