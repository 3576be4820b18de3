-- What the words of an event set stand for.
use Rattle.std.specs.Prelude.{◌≡◌, ℕ, ◌≤◌, List, Bool, false}
use Rattle.dcr_set.specs.Bits.{bit}
use Rattle.dcr_set.specs.EventSet.{those}
use Rattle.dcr_set.specs.declared.set.EventSet.TheInside.{Inside}

-- the set of the bits below the room
abbrev pub set_of_words : Inside → List Bool
set_of_words s = those s.room (bit s.words)

-- the room is one that the words have, and no bit is set from it on
pub record FitsRoom (s : Inside) : Type 0 where
  pub most : s.room ≤ 1024
  pub clear : (k : ℕ) → s.room ≤ k → bit s.words k ≡ false
