-- The 128 bytes of a set.
use Rattle.std.specs.Prelude.{◌≡◌, ℕ, ◌+◌, ◌/◌, ◌%◌, ◌<◌, ◌≤◌, ◌==◌, Bool, List, length, slice_index}
use Rattle.std.specs.Int.{bit_at}
use Rattle.dcr_set.specs.EventSet.{Set, has}

-- whether the bytes from a place on have event k: bit k % 8 of byte k / 8 is set
unfoldable pub bit_from : List ℕ → ℕ → ℕ → Bool
bit_from bytes place k = bit_at (slice_index bytes (place + k / 8)) (k % 8) == 1

-- the 128 bytes from a place on have the events of the set, and nothing from its room on
pub record HasSet (bytes : List ℕ) (place : ℕ) (events : Set) : Type 0 where
  pub most : length events ≤ 1024
  pub bits : (k : ℕ) → k < 1024 → bit_from bytes place k ≡ has events k
