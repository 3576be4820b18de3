use Rattle.std.proofs.Common.{◌≡◌, [], length}
use Rattle.std.specs.List.{All}
use Rattle.dcr_graph.proofs.index.empty_places.Given as goal

abbrev pub invariant-loop : goal.invariant-loop
invariant-loop l = record {
  len : length l.places.items ≡ l.counter;
  empty : All (λ numbers. numbers.entries ≡ []) l.places.items;
}
