use Rattle.std.proofs.Common.{◌≡◌, length}
use Rattle.dcr_value_rows.proofs.set.set_of.Given as goal

abbrev pub invariant-loop-number : goal.invariant-loop-number
invariant-loop-number l = length l.set ≡ l.room
