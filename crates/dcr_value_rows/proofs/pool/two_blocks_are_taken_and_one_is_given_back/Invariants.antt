use Rattle.std.proofs.Common.{◌≡◌, length}
use Rattle.dcr_value_rows.proofs.pool.two_blocks_are_taken_and_one_is_given_back.Given as goal

abbrev pub invariant-loop-number : goal.invariant-loop-number
invariant-loop-number g l = record { length : length l.block.entries ≡ l.number; room : l.block.room ≡ 256 }
