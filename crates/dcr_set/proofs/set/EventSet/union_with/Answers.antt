use Rattle.std.proofs.Common.{◌||◌, refl}
use Rattle.dcr_set.proofs.StandsLemmas.{Stands, stands, combined, fits_from, set_from, room_from}
use Rattle.dcr_set.specs.EventSet.{union}
use Rattle.dcr_set.proofs.set.EventSet.union_with.Goals as goal
use Rattle.dcr_set.proofs.set.EventSet.union_with.Goals.{After-unite}

after : (c : After-unite) → Stands c.unite.new.words c.self.inside.room (union c.args.self.now c.args.other.now)
after c = combined ◌||◌ refl (stands c.self.inside _ c.self.invariant c.self.view_is) (stands c.other.inside _ c.other.invariant c.other.view_is) c.requires c.unite.ensures.bits

pub invariant_of-self : goal.invariant_of-self
invariant_of-self c = fits_from _ _ _ (after c)

pub returns-clause-joined : goal.returns-clause-joined
returns-clause-joined c = set_from _ _ _ (after c)

pub returns-clause-room : goal.returns-clause-room
returns-clause-room c = room_from _ _ _ _ (stands c.self.inside _ c.self.invariant c.self.view_is)
