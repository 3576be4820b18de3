use Rattle.std.proofs.Common.{◌≡◌, ◌<◌, ℕ, true, get_or, is_some, map, take, unwrap_or}
use Rattle.serde_json.specs.Data.{null}
use Rattle.serde_json.specs.View.{view}
use Rattle.dcr_graph_json.specs.Build.{no_pair, pair_in}
use Rattle.dcr_graph_json.proofs.pairs.read_pairs.Given as goal

-- the pairs of the relations before i, which have both ends
abbrev pub invariant-loop-i : goal.invariant-loop-i
invariant-loop-i l = record {
  pairs : l.pairs.items ≡ map (λ d. unwrap_or (pair_in l.names d) no_pair) (take l.i (map view l.relations));
  ends : (k : ℕ) → k < l.i → is_some (pair_in l.names (get_or (map view l.relations) k null)) ≡ true;
}
