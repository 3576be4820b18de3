use Rattle.std.proofs.Common.{◌≡◌, List, take}
use Rattle.dcr_set.specs.Least.{least}
use Rattle.dcr_set.specs.EventSet.{Set}
use Rattle.dcr_graph.specs.Rules.{Rules}
use Rattle.dcr_graph.specs.declared.marking.Marking.{Marking}
use Rattle.dcr_site.specs.Together.{AllStand, waits_in}
use Rattle.dcr_run.proofs.sites.first_of_each.Given as goal

abbrev pub invariant-loop-member : goal.invariant-loop-member
invariant-loop-member l = (G : Rules) (C : List Set) (M : Marking) → AllStand G C M l.members → l.first ≡ least G.atoms (waits_in (take l.member-index C) M)
