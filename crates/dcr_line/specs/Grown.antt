-- What a call that stops in the middle leaves of a text that it adds to.
use Rattle.std.specs.Prelude.{◌≡◌, ℕ, List, length, take}

-- the old text stands at the front of the new one
pub record StartsWith (old new : List ℕ) : Type 0 where
  pub front : take (length old) new ≡ old
