use Rattle.std.proofs.Common.{◌≡◌, take}
use Rattle.std.specs.List.{list_any}
use Rattle.dcr_set.specs.EventSet.{those}
use Rattle.dcr_graph.specs.Rows.{leads}
use Rattle.dcr_policy.proofs.sets.joined.Given as goal

abbrev pub invariant-loop-role : goal.invariant-loop-role
invariant-loop-role l = l.set ≡ those l.room (λ a. list_any (λ role. leads l.sets role a) (take l.role-index l.roles))
