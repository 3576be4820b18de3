-- A held place as contracts see it.
use Rattle.std.specs.Prelude.{ℕ}

pub record Holding (T : Type 0) : Type 0 where
  -- the number of the place
  pub place : ℕ
  -- what is held there
  pub value : T

-- the same place with another value
abbrev pub with_value : {T : Type 0} → Holding T → T → Holding T
with_value held value = record held { value = value }
