use Rattle.std.proofs.Common.{arith}
use Rattle.dcr_lock.proofs.Keeping.{sits}
use Rattle.dcr_lock.proofs.row_end.RowEnd.new.Goals as goal

pub load_new_seat-seat-requires : goal.load_new_seat-seat-requires
load_new_seat-seat-requires g c = (omega (arith, c.requires.words), sits g.T.Placed.belongs _ _)
