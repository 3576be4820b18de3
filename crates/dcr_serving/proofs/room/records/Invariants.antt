use Rattle.std.proofs.Common.{◌≡◌, ◌≤◌, length, vec_len, vec_capacity}
use Rattle.std.specs.List.{All}
use Rattle.dcr_serving.specs.Placing.{HasRoom}
use Rattle.dcr_serving.proofs.room.records.Given as goal

abbrev pub invariant-loop : goal.invariant-loop
invariant-loop g l = record {
  many : length l.all.items ≡ l.counter;
  count : vec_len l.all ≡ l.counter;
  room : l.workers ≤ vec_capacity l.all;
  empty : All (HasRoom l.sessions) l.all.items;
}
