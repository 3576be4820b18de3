use Rattle.std.proofs.Common.{◌≡◌, ℕ, ◌<◌, false, [], get_or}
use Rattle.std.specs.Str.{bytes_eq}
use Rattle.dcr_nest.specs.Nest.{names_of}
use Rattle.dcr_graph_rows.proofs.nest.are_distinct.Given as goal

abbrev pub invariant-loop-x : goal.invariant-loop-x
invariant-loop-x l = (i j : ℕ) → i < j → j < l.x → bytes_eq (get_or (names_of l.nodes) i []) (get_or (names_of l.nodes) j []) ≡ false
