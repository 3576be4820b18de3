-- A pool as contracts see it.
use Rattle.std.specs.Prelude.{ℕ}

pub record Supply : Type 0 where
  -- how many blocks there are, in the pool and out of it
  pub blocks : ℕ
  -- for how many entries each block has room
  pub per_block : ℕ
  -- how many blocks are in the pool
  pub spare : ℕ

abbrev pub supply : ℕ → ℕ → ℕ → Supply
supply blocks per_block spare = record { blocks = blocks; per_block = per_block; spare = spare }
