use Rattle.std.proofs.Common.{arith}
use Rattle.dcr_lock.proofs.Opening.{opens}
use Rattle.dcr_lock.proofs.row.Row.open.Goals as goal

pub vacant-opened-requires : goal.vacant-opened-requires
vacant-opened-requires g c = opens g.T.Placed.belongs c.len-count.result 64 (omega arith)
