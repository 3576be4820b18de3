use Rattle.std.proofs.Common.{take}
use Rattle.dcr_policy.specs.Sets.{AreJoined}
use Rattle.dcr_policy.proofs.sets.join_each.Given as goal

abbrev pub invariant-loop-role : goal.invariant-loop-role
invariant-loop-role l = AreJoined l.fn.sets.items (take l.role-index l.roles) l.more l.sets.items
