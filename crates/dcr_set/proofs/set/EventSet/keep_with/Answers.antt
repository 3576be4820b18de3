use Rattle.std.proofs.Common.{◌&&◌, refl}
use Rattle.dcr_set.proofs.StandsLemmas.{Stands, stands, combined, fits_from, set_from, room_from}
use Rattle.dcr_set.specs.EventSet.{intersection}
use Rattle.dcr_set.proofs.set.EventSet.keep_with.Goals as goal
use Rattle.dcr_set.proofs.set.EventSet.keep_with.Goals.{After-keep}

after : (c : After-keep) → Stands c.keep.new.words c.self.inside.room (intersection c.args.self.now c.args.other.now)
after c = combined ◌&&◌ refl (stands c.self.inside _ c.self.invariant c.self.view_is) (stands c.other.inside _ c.other.invariant c.other.view_is) c.requires c.keep.ensures.bits

pub invariant_of-self : goal.invariant_of-self
invariant_of-self c = fits_from _ _ _ (after c)

pub returns-clause-kept : goal.returns-clause-kept
returns-clause-kept c = set_from _ _ _ (after c)

pub returns-clause-room : goal.returns-clause-room
returns-clause-room c = room_from _ _ _ _ (stands c.self.inside _ c.self.invariant c.self.view_is)
