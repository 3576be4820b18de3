-- A stream as contracts see it.
use Rattle.std.specs.Prelude.{ℕ, List}

pub record StreamValue : Type 0 where
  pub events : List ℕ
  -- how many events there may be
  pub room : ℕ
