use Rattle.std.proofs.Common.{◌≡◌, ℕ, ◌<◌, false, [], get_or}
use Rattle.std.specs.Str.{bytes_eq}
use Rattle.dcr_nest.specs.Nest.{names_of}
use Rattle.dcr_graph_rows.proofs.nest.stands_before.Given as goal

abbrev pub invariant-loop-k : goal.invariant-loop-k
invariant-loop-k l = (j : ℕ) → j < l.k → bytes_eq (get_or (names_of l.nodes) j []) (get_or (names_of l.nodes) l.at []) ≡ false
