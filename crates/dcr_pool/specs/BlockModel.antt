-- What the vector of a block stands for.
use Rattle.std.specs.Prelude.{◌≤◌, length, vec_capacity}
use Rattle.dcr_pool.specs.Filled.{Filled}
use Rattle.dcr_pool.specs.declared.block.Block.TheInside.{Inside}

abbrev pub filled_of : {T : Type 0} → Inside T → Filled T
filled_of b = record { entries = b.entries.items; room = vec_capacity b.entries }

abbrev pub FitsRoom : {T : Type 0} → Inside T → Type 0
FitsRoom b = length b.entries.items ≤ vec_capacity b.entries
