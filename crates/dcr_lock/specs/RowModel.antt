-- What the field of a row stands for.
use Rattle.std.specs.Prelude.{◌≡◌, ℕ, ◌<◌, ◌≤◌}
use Rattle.dcr_lock.specs.declared.row.Row.TheInside.{Inside}

-- how many places it has
abbrev pub places_of : {T : Type 0} → Inside T → ℕ
places_of row = row.table.shared.table_id.slots

-- 1 to 64 places, and a word and a slot for each
pub record HasPlaces {T : Type 0} (row : Inside T) : Type 0 where
  pub words : row.table.shared.table_id.words ≡ row.table.shared.table_id.slots
  pub least : 0 < row.table.shared.table_id.slots
  pub most : row.table.shared.table_id.slots ≤ 64
