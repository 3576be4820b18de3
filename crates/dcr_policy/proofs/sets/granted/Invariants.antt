use Rattle.std.proofs.Common.{◌≡◌, map, take}
use Rattle.std.specs.List.{list_any}
use Rattle.dcr_set.specs.EventSet.{those}
use Rattle.dcr_graph.specs.Rows.{leads}
use Rattle.dcr_policy.proofs.sets.granted.Given as goal

abbrev pub invariant-loop-roles : goal.invariant-loop-roles
invariant-loop-roles l = l.sets.items ≡ map (λ roles. those l.room (λ a. list_any (λ role. leads l.asking role a) roles)) (take l.roles-index l.users)
