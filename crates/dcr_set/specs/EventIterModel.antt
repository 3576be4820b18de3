-- What an iterator over the bits of words has still to give.
use Rattle.std.specs.Prelude.{◌≡◌, ℕ, ◌*◌, ◌<◌, ◌≤◌, List, Bool, false, ◌&&◌, nat_le, length, set}
use Rattle.dcr_set.specs.Bits.{bit}
use Rattle.dcr_set.specs.EventSet.{numbers, those}
use Rattle.dcr_set.specs.declared.iter.EventIter.TheInside.{Inside}

-- whether bit k is still to come, where the bits of the word at w are given and these are the rest of them
abbrev pub comes : List ℕ → ℕ → ℕ → ℕ → Bool
comes words w rest k = bit (set words w rest) k && nat_le (64 * w) k

-- the bits still to come, ascending
abbrev pub events_left : Inside → List ℕ
events_left it = numbers (those 1024 (comes it.words.now it.at it.rest))

-- the word is one of sixteen, and no bit is set from the end on
pub record FitsWords (it : Inside) : Type 0 where
  pub words : length it.words.now ≡ 16
  pub at : it.at < 16
  pub end : it.end ≤ 16
  pub clear : (k : ℕ) → 64 * it.end ≤ k → bit it.words.now k ≡ false
