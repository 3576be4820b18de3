use Rattle.std.proofs.Common.{◌≡◌, ◌<◌, ℕ, Some}
use Rattle.std.specs.Prelude.{None, slice_get, slice_index_or}
use Rattle.dcr_turn.specs.PassValue.{PassValue}
use Rattle.dcr_serving.proofs.gather.meet_none.Given as goal

abbrev pub invariant-loop-i : goal.invariant-loop-i
invariant-loop-i g l = record {
  seats : l.left ≡ l.initial.left;
  slots : l.slots ≡ l.initial.slots;
  free : (j : ℕ) (d : PassValue) → j < l.i → slice_get l.initial.slots (slice_index_or l.initial.left j d).session ≡ Some None;
}
