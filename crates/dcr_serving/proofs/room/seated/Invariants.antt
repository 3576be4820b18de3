use Rattle.std.proofs.Common.{◌≡◌, ◌+◌, ◌≤◌, ◌++◌, length, reverse, vec_len, vec_capacity}
use Rattle.dcr_serving.proofs.room.seated.Given as goal

abbrev pub invariant-loop-pass : goal.invariant-loop-pass
invariant-loop-pass g l = record {
  parts : l.initial.passes.items ≡ l.passes.items ++ reverse l.seats.items;
  room : length l.passes.items + length l.seats.items ≤ vec_capacity l.seats;
}

abbrev pub decreases-loop-pass : goal.decreases-loop-pass
decreases-loop-pass g l = vec_len l.passes
