-- A `DeskShare` as contracts see it.
use Rattle.std.specs.Prelude.{ℕ}

pub record ShareValue : Type 0 where
  -- of the parts that the shares of the desk have together
  pub parts : ℕ
  -- how many items were taken with it
  pub taken : ℕ
