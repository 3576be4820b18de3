-- The marks of the atoms before this one were carried.
use Rattle.std.proofs.Common.{◌≡◌, length}
use Rattle.dcr_set.proofs.ToldLemmas.{filled}
use Rattle.dcr_adapt.specs.Carried.{is_carried, keeps_executed, keeps_included, keeps_pending}
use Rattle.dcr_adapt.proofs.carrying.carry_each.Given as goal

abbrev pub invariant-loop-number : goal.invariant-loop-number
invariant-loop-number l = record {
  executed : l.executed ≡ filled (length l.next.graph.names) (is_carried l.names (keeps_executed l.owned l.marks) l.next.graph.names l.next.opening.executed) l.number;
  pending : l.pending ≡ filled (length l.next.graph.names) (is_carried l.names (keeps_pending l.owned l.marks) l.next.graph.names l.next.opening.pending) l.number;
  included : l.included ≡ filled (length l.next.graph.names) (is_carried l.names (keeps_included l.owned l.marks) l.next.graph.names l.next.opening.included) l.number;
}
