use Rattle.std.proofs.Common.{◌≡◌, ℕ, ◌*◌, ◌<◌, false}
use Rattle.dcr_set.specs.Bits.{bit}
use Rattle.dcr_set.proofs.lowest.lowest_below.Given as goal

abbrev pub invariant-loop-i : goal.invariant-loop-i
invariant-loop-i l = (k : ℕ) → k < 64 * l.i → bit l.words k ≡ false
