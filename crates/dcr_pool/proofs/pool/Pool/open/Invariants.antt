use Rattle.std.proofs.Common.{◌≡◌, ◌≤◌, length, vec_capacity}
use Rattle.std.specs.Prelude.{All}
use Rattle.dcr_pool.specs.Filled.{empty_block}
use Rattle.dcr_pool.proofs.pool.Pool.open.Given as goal

-- so many empty blocks as the loop has come to, and room for all
abbrev pub invariant-loop : goal.invariant-loop
invariant-loop g l = record {
  empty : All (λ block. block ≡ empty_block l.per_block) l.free.items;
  reached : length l.free.items ≡ l.counter;
  reserved : l.blocks ≤ vec_capacity l.free;
}
