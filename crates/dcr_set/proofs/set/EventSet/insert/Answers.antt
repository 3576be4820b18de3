use Rattle.std.proofs.Common.{arith}
use Rattle.dcr_set.proofs.StandsLemmas.{Stands, stands, added, fits_from, set_from, room_from}
use Rattle.dcr_set.specs.EventSet.{with_event}
use Rattle.dcr_set.proofs.set.EventSet.insert.Goals as goal
use Rattle.dcr_set.proofs.set.EventSet.insert.Goals.{After-e, After-set_bit}

pub set_bit-requires : goal.set_bit-requires
set_bit-requires c = let before = stands c.self.inside _ c.self.invariant c.self.view_is in omega (arith, before.room_is, before.most, c.e.view_is)

after : (c : After-set_bit) → Stands c.set_bit.new.words c.self.inside.room (with_event c.args.self.now c.args.e)
after c = added c.e.inside.0 c.args.e c.e.view_is (stands c.self.inside _ c.self.invariant c.self.view_is) c.requires c.set_bit.ensures.bits

pub invariant_of-self : goal.invariant_of-self
invariant_of-self c = fits_from _ _ _ (after c)

pub returns-clause-added : goal.returns-clause-added
returns-clause-added c = set_from _ _ _ (after c)

pub returns-clause-room : goal.returns-clause-room
returns-clause-room c = room_from _ _ _ _ (stands c.self.inside _ c.self.invariant c.self.view_is)
