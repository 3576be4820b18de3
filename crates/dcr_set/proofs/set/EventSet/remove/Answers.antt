use Rattle.std.proofs.Common.{arith}
use Rattle.dcr_set.proofs.StandsLemmas.{Stands, stands, removed, without_past, set_from, room_from}
use Rattle.dcr_set.specs.EventSet.{without_event}
use Rattle.dcr_set.proofs.set.EventSet.remove.Goals as goal
use Rattle.dcr_set.proofs.set.EventSet.remove.Goals.{After-clear_bit}

after : (c : After-clear_bit) → Stands c.clear_bit.new.words c.self.inside.room (without_event c.args.self.now c.args.e)
after c = removed c.e.inside.0 c.args.e c.e.view_is (stands c.self.inside _ c.self.invariant c.self.view_is) c.clear_bit.ensures.bits

pub returns-then-e-self-clause-removed : goal.returns-then-e-self-clause-removed
returns-then-e-self-clause-removed c = set_from _ _ _ (after c)

pub returns-then-e-self-clause-room : goal.returns-then-e-self-clause-room
returns-then-e-self-clause-room c = room_from _ _ _ _ (stands c.self.inside _ c.self.invariant c.self.view_is)

pub returns-else-e-self-clause-removed : goal.returns-else-e-self-clause-removed
returns-else-e-self-clause-removed c =
    let before = stands c.self.inside _ c.self.invariant c.self.view_is in
    without_past c.args.self.now c.args.e (omega (arith, before.room_is, c.e.view_is))
