use Rattle.std.proofs.Common.{◌∙◌}
use Rattle.dcr_lock.proofs.Keeping.{takes_or_misses}
use Rattle.dcr_lock.proofs.seats.wait_for.Goals as goal

pub compare_exchange-next-requires : goal.compare_exchange-next-requires
compare_exchange-next-requires g c = (c.loop.invariant.2 ∙ c.requires.row, c.requires.place.0, takes_or_misses g.T.Placed.belongs _ _ _ _ c.requires.place.1)
