use Rattle.std.proofs.Common.{◌≡◌, ◌≤◌, vec_len, vec_capacity}
use Rattle.dcr_turn_rows.proofs.many.fronts_of.Given as goal

abbrev pub invariant-loop-place : goal.invariant-loop-place
invariant-loop-place g l = record {
  places : l.end.places ≡ 16;
  emptied : l.end.emptied ≡ l.place;
  fronts : vec_len l.fronts ≡ l.place;
  room : 16 ≤ vec_capacity l.fronts;
}
