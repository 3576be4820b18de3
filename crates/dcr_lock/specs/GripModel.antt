-- What the fields of the hold of a place stand for.
use Rattle.std.specs.Prelude.{◌≡◌, ℕ}
use Rattle.dcr_lock.specs.Seats.{HasPlace, holding}
use Rattle.dcr_lock.specs.declared.grip.Grip.TheInside.{Inside}

abbrev pub place_of : {T : Type 0} → Inside T → ℕ
place_of grip = grip.place

-- the seat is of the table, and holds the place with its slot empty
abbrev pub GripsPlace : {T : Type 0} → Inside T → Type 0
GripsPlace grip = (grip.seat.table_id ≡ grip.shared.now.table_id) × HasPlace grip.shared.now.table_id grip.place × (grip.seat.me ≡ holding grip.place 0)
