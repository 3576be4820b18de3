-- What the fields of a pool stand for.
use Rattle.std.specs.Prelude.{◌≡◌, ◌<◌, ◌≤◌, ◌^◌, length, vec_capacity, All}
use Rattle.dcr_pool.specs.Filled.{empty_block}
use Rattle.dcr_pool.specs.Supply.{Supply, supply}
use Rattle.dcr_pool.specs.declared.pool.Pool.TheInside.{Inside}

abbrev pub supply_of : {T : Type 0} → Inside T → Supply
supply_of p = supply p.blocks p.per_block (length p.free.items)

-- each block in the pool is empty and has the room of all, the vector has room for every block, and their number is
-- a `u32`
pub record HoldsEmptyBlocks {T : Type 0} (p : Inside T) : Type 0 where
  pub empty : All (λ block. block ≡ empty_block p.per_block) p.free.items
  pub within : length p.free.items ≤ p.blocks
  pub reserved : p.blocks ≤ vec_capacity p.free
  pub counted : p.blocks < 2 ^ 32
