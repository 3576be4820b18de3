use Rattle.std.proofs.Common.{◌≡◌, length, get_or, map}
use Rattle.serde_json.specs.View.{view}
use Rattle.dcr_set.proofs.ToldLemmas.{filled}
use Rattle.dcr_graph_json.specs.Build.{has_mark}
use Rattle.dcr_graph_json.specs.Written.{event_at}
use Rattle.dcr_graph_json.proofs.opening.marked.Given as goal

-- the atoms before a that have the mark
abbrev pub invariant-loop-a : goal.invariant-loop-a
invariant-loop-a l = l.set ≡ filled (length l.atoms) (λ k. has_mark l.mark (event_at (map view l.events) (get_or l.atoms k 0))) l.a
