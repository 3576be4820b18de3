use Rattle.std.proofs.Common.{Some}
use Rattle.dcr_lock.proofs.Told.{stands}
use Rattle.dcr_lock.proofs.seats.take_out.Goals as goal

pub exchange-stood-requires : goal.exchange-stood-requires
exchange-stood-requires g c = (c.requires.row, (Some c.requires.holds.0, stands _ _ _ _ _ c.requires.holds.2))
