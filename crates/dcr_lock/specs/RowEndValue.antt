-- A row that is being ended, as contracts see it.
use Rattle.std.specs.Prelude.{ℕ}

pub record Emptying : Type 0 where
  -- how many places the row has
  pub places : ℕ
  -- how many of them, from 0 on, have given their value back
  pub emptied : ℕ
