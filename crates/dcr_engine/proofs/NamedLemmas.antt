-- The cluster of a graph and a cover, whose sites stand at the opening marking, under the name of its turn.
use Rattle.std.proofs.Common.{◌≡◌, ◌≤◌, List, length, ◌∙◌, arith}
use Rattle.std.specs.List.{All}
use Rattle.dcr_graph.specs.GraphValue.{Flat, rules_of}
use Rattle.dcr_graph.specs.Projection.{HasRoom}
use Rattle.dcr_graph.specs.declared.marking.Marking.{Marking}
use Rattle.dcr_proj.specs.CoverValue.{IsCover, IsCovered, Owners}
use Rattle.dcr_run.specs.SitesModel.{alphabets_in}
use Rattle.dcr_site.specs.Seen.{Seen}
use Rattle.dcr_site.specs.Together.{AllStand}
use Rattle.dcr_tape.specs.declared.entry.TapeEntry.{TapeEntry}
use Rattle.dcr_turn.specs.TurnId.{TurnId}
use Rattle.dcr_cell.specs.ClusterId.{IsNamed}
use Rattle.dcr_cluster.proofs.OpeningLemmas.{alphabets_of_stand}
use Rattle.dcr_engine.specs.Ran.{cluster_of}

pub named_of : (graph : Flat) (cover : Owners) (opening : Marking) (old : List TapeEntry) (turn : TurnId) (sites : List Seen) → IsCover cover → IsCovered (length graph.names) cover.owned
    → All (λ set. length set ≡ length graph.names) cover.owned → HasRoom (length graph.names) opening → length old ≤ 1000000 → AllStand (rules_of graph) cover.owned opening sites
    → turn.alphabets ≡ alphabets_in sites → IsNamed (cluster_of graph cover opening old) turn
named_of graph cover opening old turn sites is covered rooms room few stand alphabets = record {
  alphabets = alphabets ∙ alphabets_of_stand (rules_of graph) cover.owned opening sites stand;
  some_site = omega (arith, is.some_site, is.as_many);
  most_sites = omega (arith, is.most_sites, is.as_many);
  rooms = rooms;
  covered = covered;
  opening = room;
  few_old = few;
}
