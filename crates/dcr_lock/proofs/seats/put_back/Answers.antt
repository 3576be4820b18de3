use Rattle.std.proofs.Common.{[], ◌∙◌, Some}
use Rattle.dcr_lock.proofs.Keeping.{gives_back}
use Rattle.dcr_lock.proofs.Told.{laid}
use Rattle.dcr_lock.proofs.seats.put_back.Goals as goal

pub store-requires : goal.store-requires
store-requires g c =
    let e = c.exchange-stood.ensures in
    let me = laid c.args.place c.args.seat.now.me.0.empty (Some c.args.value) c.args.seat.now.me c.exchange-stood.new.seat.me c.requires.holds e.3 in
    (e.0 ∙ c.requires.row, c.requires.place.0, rw me (gives_back g.T.Placed.belongs _ _ _ _ [] c.args.value [] c.requires.place.1 c.requires.belongs))
