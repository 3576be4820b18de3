use Rattle.std.proofs.Common.{◌≡◌, ◌≤◌, vec_len}
use Rattle.dcr_lock.specs.Placing.{StandInPlace}
use Rattle.dcr_lock.specs.Seats.{idle}
use Rattle.dcr_lock.proofs.row.fill.Given as goal

abbrev pub invariant-loop-value : goal.invariant-loop-value
invariant-loop-value g l = record {
  row : l.seat.table_id ≡ l.shared.table_id;
  fewer : vec_len l.values ≤ vec_len l.initial.values;
  empty : l.seat.me ≡ idle (vec_len l.values);
  belong : StandInPlace g.T.Placed.belongs l.values.items;
}

abbrev pub decreases-loop-value : goal.decreases-loop-value
decreases-loop-value g l = vec_len l.values
