-- No site before this one owns the atom.
use Rattle.std.proofs.Common.{◌≡◌, ◌<◌, ℕ, false}
use Rattle.dcr_set.specs.EventSet.{has}
use Rattle.dcr_graph.specs.Rows.{row}
use Rattle.dcr_adapt.proofs.carrying.owners_mark.Given as goal

abbrev pub invariant-loop-i : goal.invariant-loop-i
invariant-loop-i l = (k : ℕ) → k < l.i → has (row l.owned k) l.a ≡ false
