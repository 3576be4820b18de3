use Rattle.std.proofs.Common.{[]}
use Rattle.dcr_lock.proofs.Keeping.{leaves_empty}
use Rattle.dcr_lock.proofs.seats.leave_empty.Goals as goal

pub store-requires : goal.store-requires
store-requires g c = (c.requires.row, c.requires.place.0, rw c.requires.holds (leaves_empty g.T.Placed.belongs _ _ _ _ [] [] c.requires.place.1))
