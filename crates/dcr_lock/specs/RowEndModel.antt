-- What the fields of a row that is being ended stand for.
use Rattle.std.specs.Prelude.{◌≡◌, ◌≤◌}
use Rattle.dcr_lock.specs.RowEndValue.{Emptying}
use Rattle.dcr_lock.specs.Seats.{idle}
use Rattle.dcr_lock.specs.declared.row_end.RowEnd.TheInside.{Inside}

abbrev pub emptying_of : {T : Type 0} → Inside T → Emptying
emptying_of row = record { places = row.table.shared.table_id.slots; emptied = row.emptied }

-- the seat is of the table, holds no place, and knows that the places whose value was given are empty
pub record IsEmptying {T : Type 0} (row : Inside T) : Type 0 where
  pub words : row.table.shared.table_id.words ≡ row.table.shared.table_id.slots
  pub places : row.table.shared.table_id.slots ≤ 64
  pub within : row.emptied ≤ row.table.shared.table_id.slots
  pub seat : row.seat.table_id ≡ row.table.shared.table_id
  pub empty : row.seat.me ≡ idle row.emptied
