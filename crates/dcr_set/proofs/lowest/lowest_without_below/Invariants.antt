use Rattle.std.proofs.Common.{◌≡◌, ℕ, ◌*◌, ◌<◌, false, not, ◌&&◌}
use Rattle.dcr_set.specs.Bits.{bit}
use Rattle.dcr_set.proofs.lowest.lowest_without_below.Given as goal

abbrev pub invariant-loop-i : goal.invariant-loop-i
invariant-loop-i l = (k : ℕ) → k < 64 * l.i → (bit l.one k && (bit l.inside k && not (bit l.outside k))) ≡ false
