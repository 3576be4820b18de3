use Rattle.std.proofs.Common.{◌≡◌, ℕ, ◌-◌, ◌<◌, false, get_or}
use Rattle.std.specs.Mem.Slots.{slots_items, slots_filled, slots_len}
use Rattle.std.specs.Mem.Slots.Ownership.{Filled}
use Rattle.dcr_lock.proofs.row_end.RowEnd.finish.Given as goal

abbrev pub invariant-loop-place : goal.invariant-loop-place
invariant-loop-place g l = record {
  items : slots_items l.closed.slots ≡ slots_items l.initial.closed.slots;
  count : slots_len l.closed.slots ≡ slots_len l.initial.closed.slots;
  left : Filled (slots_filled l.closed.slots) l.place (slots_len l.closed.slots);
  gone : (k : ℕ) → k < l.place → get_or (slots_filled l.closed.slots) k false ≡ false;
}

abbrev pub decreases-loop-place : goal.decreases-loop-place
decreases-loop-place g l = slots_len l.closed.slots - l.place
