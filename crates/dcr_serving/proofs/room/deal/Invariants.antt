use Rattle.std.proofs.Common.{◌≡◌, ◌+◌, ◌≤◌, length, vec_len, vec_capacity}
use Rattle.std.specs.List.{All}
use Rattle.dcr_serving.specs.Hands.{IsReady}
use Rattle.dcr_serving.specs.Placing.{HasRoom}
use Rattle.dcr_serving.proofs.room.deal.Given as goal

abbrev pub invariant-loop-records : goal.invariant-loop-records
invariant-loop-records g l = record {
  parts : l.share.parts ≡ length l.records.items + 1;
  taken : l.share.taken ≡ l.initial.share.taken;
  all : length l.hands.items + length l.records.items ≡ length l.initial.records.items;
  room : length l.hands.items + length l.records.items ≤ vec_capacity l.hands;
  empty : All (HasRoom l.sessions) l.records.items;
  ready : All (IsReady l.sessions) l.hands.items;
}

abbrev pub decreases-loop-records : goal.decreases-loop-records
decreases-loop-records g l = vec_len l.records
