-- Words as bits: which numbers an array of words of 64 bits has.
use Rattle.std.specs.Prelude.{ℕ, ◌/◌, ◌%◌, Bool, ◌==◌, List, slice_index}
use Rattle.std.specs.Int.{bit_at}

-- whether bit k is set: bit k % 64 of word k / 64, and no bit past the last word
unfoldable pub bit : List ℕ → ℕ → Bool
bit words k = bit_at (slice_index words (k / 64)) (k % 64) == 1
