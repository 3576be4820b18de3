use Rattle.std.proofs.Common.{◌≡◌, true, map, take}
use Rattle.std.specs.List.{list_all}
use Rattle.std.specs.Option.{is_some}
use Rattle.dcr_laws.specs.AtSites.{least_of}
use Rattle.dcr_node.specs.Gathering.{first_waits}
use Rattle.dcr_node.specs.declared.gathered.Gathered.{Gathered}
use Rattle.dcr_node.proofs.gathered.waits_of_all.Given as goal

abbrev pub invariant-loop-told : goal.invariant-loop-told
invariant-loop-told l = record {
  all : list_all (λ (g : Gathered). is_some g.waits) (take l.told-index l.gathered) ≡ true;
  least : l.first ≡ least_of (map first_waits (take l.told-index l.gathered));
}
