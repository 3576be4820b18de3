use Rattle.dcr_lock.proofs.Keeping.{takes_or_misses}
use Rattle.dcr_lock.proofs.seats.take.Goals as goal

pub compare_exchange-found-requires : goal.compare_exchange-found-requires
compare_exchange-found-requires g c = (c.requires.row, c.requires.place.0, takes_or_misses g.T.Placed.belongs _ _ _ _ c.requires.place.1)
