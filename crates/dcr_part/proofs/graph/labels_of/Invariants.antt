use Rattle.std.proofs.Common.{◌≡◌, vec_len}
use Rattle.dcr_part.proofs.graph.labels_of.Given as goal

abbrev pub invariant-loop-name : goal.invariant-loop-name
invariant-loop-name l = vec_len l.labels ≡ l.name-index
