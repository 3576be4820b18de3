use Rattle.std.proofs.Common.{◌≡◌, ◌≤◌, [], length, vec_len, vec_capacity}
use Rattle.dcr_serving.specs.Placing.{filled}
use Rattle.dcr_serving.proofs.room.slots.Given as goal

abbrev pub invariant-loop : goal.invariant-loop
invariant-loop g l = record {
  many : length l.slots.items ≡ l.counter;
  count : vec_len l.slots ≡ l.counter;
  room : l.sessions ≤ vec_capacity l.slots;
  empty : filled l.slots.items ≡ [];
}
