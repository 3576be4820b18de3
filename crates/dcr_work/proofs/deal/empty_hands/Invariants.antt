use Rattle.std.proofs.Common.{◌≡◌, ◌≤◌, length, vec_len, vec_capacity}
use Rattle.std.specs.List.{All}
use Rattle.dcr_work.specs.Dealing.{IsEmptyHand}
use Rattle.dcr_work.proofs.deal.empty_hands.Given as goal

abbrev pub invariant-loop : goal.invariant-loop
invariant-loop g l = record {
  many : length l.hands.items ≡ l.counter;
  count : vec_len l.hands ≡ l.counter;
  room : l.workers ≤ vec_capacity l.hands;
  empty : All (IsEmptyHand l.room) l.hands.items;
}
