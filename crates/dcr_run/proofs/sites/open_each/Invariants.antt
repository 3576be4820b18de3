use Rattle.std.proofs.Common.{◌≡◌, length}
use Rattle.dcr_graph.specs.GraphValue.{rules_of}
use Rattle.dcr_site.specs.Together.{AreOver}
use Rattle.dcr_run.specs.SitesModel.{alphabets_in}
use Rattle.dcr_site.proofs.TogetherLemmas.{StandBefore}
use Rattle.dcr_run.proofs.sites.open_each.Given as goal

abbrev pub invariant-loop-own : goal.invariant-loop-own
invariant-loop-own l =
    StandBefore (rules_of l.graph) l.owned l.opening l.own-index l.members.items
    × AreOver (length l.graph.names) l.members.items
    × l.alphabets.items ≡ alphabets_in l.members.items
