use Rattle.std.proofs.Common.{arith}
use Rattle.dcr_lock.proofs.Keeping.{sits}
use Rattle.dcr_lock.proofs.row.Row.lock_noting.Goals as goal

pub load_new_seat-seat-requires : goal.load_new_seat-seat-requires
load_new_seat-seat-requires g c = (let e = c.self.invariant.words in let v = c.self.view_is in omega arith, sits g.T.Placed.belongs _ _)
