use Rattle.std.proofs.Common.{◌≢◌, ◌<◌, ℕ}
use Rattle.std.specs.Prelude.{slice_index_or}
use Rattle.dcr_link.specs.declared.end.WorkCause.TheVariants.{NoMemory}
use Rattle.dcr_serving.specs.declared.end.LinkEnd.{LinkEnd}
use Rattle.dcr_serving.proofs.serve.any_wanted.Given as goal

abbrev pub invariant-loop-one : goal.invariant-loop-one
invariant-loop-one g l = (k : ℕ) (d : LinkEnd g.row.L.Denot g.row.L-Rest.Denot) → k < l.one-index → (slice_index_or l.ends k d).end.cause ≢ NoMemory
