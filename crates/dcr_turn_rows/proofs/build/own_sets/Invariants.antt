use Rattle.std.proofs.Common.{◌≡◌, length}
use Rattle.std.specs.List.{All}
use Rattle.dcr_turn_rows.specs.Own.{HaveOwnEvents}
use Rattle.dcr_turn_rows.proofs.build.own_sets.Given as goal

abbrev pub invariant-loop-i : goal.invariant-loop-i
invariant-loop-i l = record {
  count : length l.sets.items ≡ l.i;
  rooms : All (λ set. length set ≡ 16) l.sets.items;
  own : HaveOwnEvents l.sets.items;
}
