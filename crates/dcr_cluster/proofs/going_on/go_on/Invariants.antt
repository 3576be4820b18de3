use Rattle.std.proofs.Common.{◌≡◌, take}
use Rattle.dcr_proj.specs.CoverValue.{IsCovered}
use Rattle.dcr_site.specs.Together.{AllStand}
use Rattle.dcr_cell.specs.ClusterId.{ClusterId, marking_by}
use Rattle.dcr_cluster.specs.Opening.{ArePossible}
use Rattle.dcr_cluster.proofs.going_on.go_on.Given as goal

-- so many were done
abbrev pub invariant-loop-x : goal.invariant-loop-x
invariant-loop-x l =
    (l.place ≡ l.x-index)
    × (l.sites.atoms ≡ l.initial.sites.atoms)
    × ((c : ClusterId) → AllStand c.rules c.owned c.opening l.initial.sites.sites → IsCovered c.rules.atoms c.owned → l.initial.sites.atoms ≡ c.rules.atoms → c.old ≡ l.old
    → AllStand c.rules c.owned (marking_by c (take l.x-index c.old)) l.sites.sites × ArePossible c l.x-index)
