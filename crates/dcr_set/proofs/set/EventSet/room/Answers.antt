use Rattle.std.proofs.Common.{arith, sym}
use Rattle.dcr_set.proofs.StandsLemmas.{stands}
use Rattle.dcr_set.proofs.set.EventSet.room.Goals as goal

pub returns-clause-room : goal.returns-clause-room
returns-clause-room c = sym (stands c.self.inside _ c.self.invariant c.self.view_is).room_is

pub returns-clause-most : goal.returns-clause-most
returns-clause-most c = let before = stands c.self.inside _ c.self.invariant c.self.view_is in omega (arith, before.room_is, before.most)
