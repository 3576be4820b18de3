use Rattle.std.proofs.Common.{◌&&◌, not, refl}
use Rattle.dcr_set.proofs.StandsLemmas.{Stands, stands, combined, fits_from, set_from, room_from}
use Rattle.dcr_set.specs.EventSet.{difference}
use Rattle.dcr_set.proofs.set.EventSet.minus_with.Goals as goal
use Rattle.dcr_set.proofs.set.EventSet.minus_with.Goals.{After-subtract}

after : (c : After-subtract) → Stands c.subtract.new.words c.self.inside.room (difference c.args.self.now c.args.other.now)
after c = combined (λ a b. a && not b) refl (stands c.self.inside _ c.self.invariant c.self.view_is) (stands c.other.inside _ c.other.invariant c.other.view_is) c.requires c.subtract.ensures.bits

pub invariant_of-self : goal.invariant_of-self
invariant_of-self c = fits_from _ _ _ (after c)

pub returns-clause-left : goal.returns-clause-left
returns-clause-left c = set_from _ _ _ (after c)

pub returns-clause-room : goal.returns-clause-room
returns-clause-room c = room_from _ _ _ _ (stands c.self.inside _ c.self.invariant c.self.view_is)
