use Rattle.std.proofs.Common.{◌≡◌, ◌<◌, length, map, take}
use Rattle.dcr_graph.specs.IndexModel.{HasNumbers}
use Rattle.dcr_graph.proofs.index.read_places.Given as goal

-- the texts before i have their numbers
abbrev pub invariant-loop-i : goal.invariant-loop-i
invariant-loop-i l = record {
  len : length l.places.items ≡ l.count;
  some : 0 < l.count;
  numbers : HasNumbers l.start l.places.items (map (λ text. text.now) (take l.i l.texts));
}
