use Rattle.std.proofs.Common.{◌≡◌, ◌≤◌, length, vec_len, vec_capacity}
use Rattle.dcr_lock.specs.Placing.{StandInPlace}
use Rattle.dcr_lock.proofs.tests.lots.Given as goal

abbrev pub invariant-loop-amount : goal.invariant-loop-amount
invariant-loop-amount l = record {
  count : vec_len l.lots ≡ l.amount-index;
  room : length l.amounts ≤ vec_capacity l.lots;
  belong : StandInPlace (λ place lot. lot.place ≡ place) l.lots.items;
}
