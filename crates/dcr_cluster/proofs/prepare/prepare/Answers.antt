use Rattle.std.proofs.Common.{◌≡◌, ◌≤◌, List, length, sym, ap, subst, ◌∙◌}
use Rattle.std.specs.Prelude.{vec_capacity}
use Rattle.std.specs.List.{range_with_len}
use Rattle.dcr_set.specs.EventSet.{Set}
use Rattle.dcr_site.specs.Seen.{Seen}
use Rattle.dcr_site.specs.Together.{AllStand}
use Rattle.dcr_turn.specs.FrontValue.{new_fronts}
use Rattle.dcr_cell.specs.ClusterId.{ClusterId, begun}
use Rattle.dcr_cell.proofs.AskLemmas.{as_many_sites}
use Rattle.dcr_cluster.proofs.OpeningLemmas.{alphabets_of_stand}
use Rattle.dcr_cluster.proofs.prepare.prepare.Goals as goal

pub room_of-requires : goal.room_of-requires
room_of-requires g c = c.len-count.ensures ∙ c.in_ok-owned.owned.ok.0 ∙ ap (λ (l : List Set). length l) (c.in_ok-owned.ensures ∙ c.owned_sets.ensures.owned ∙ c.requires.cover)

pub marking_of-opening-requires : goal.marking_of-opening-requires
marking_of-opening-requires g c =
    let C : ClusterId = g.N.ClusterName.cluster in
    record {
      named = c.requires.named;
      most = c.requires.most_atoms;
      atoms = c.requires.atoms;
      owned = c.deref.ensures.value ∙ c.in_ok-owned.ensures ∙ c.owned_sets.ensures.owned ∙ c.requires.cover;
      stand = subst (λ (l : List Seen). AllStand C.rules C.owned (begun C) l) (sym c.members.ensures) c.requires.stand;
    }

pub new-requires : goal.new-requires
new-requires g c = record { turn = c.requires.turn; capacity = c.requires.capacity; most = c.requires.most }

pub cells_of-requires : goal.cells_of-requires
cells_of-requires g c =
    let C : ClusterId = g.N.ClusterName.cluster in
    record {
      named = c.requires.named;
      stand = subst (λ (l : List Seen). AllStand C.rules C.owned (begun C) l) (sym c.into_parts-network.ensures.sites) c.requires.stand;
      fronts = c.in_ok-ready.ensures.fronts ∙ ap new_fronts (as_many_sites C g.N.TurnName.turn c.requires.named);
    }

pub returns-clause-parts : goal.returns-clause-parts
returns-clause-parts g c =
    let C : ClusterId = g.N.ClusterName.cluster in
    record {
      named = c.requires.named;
      most_entries = subst (λ n. n ≤ 200000) c.requires.capacity c.requires.most;
      cells = c.in_ok-cells.ensures;
      alphabets = c.into_parts-network.ensures.network ∙ alphabets_of_stand C.rules C.owned (begun C) c.args.sites.sites c.requires.stand ∙ sym c.requires.named.alphabets;
      owned_sets = c.in_ok-owned.ensures ∙ c.owned_sets.ensures.owned ∙ c.requires.cover;
      every_site = c.in_ok-every.ensures ∙ ap (range_with_len 0) (c.sites-2.ensures.sites ∙ sym c.sites-2.ensures.cover.as_many ∙ ap (λ (l : List Set). length l) c.requires.cover);
      begins = c.marking_of-opening.ensures;
    }

pub returns-clause-room : goal.returns-clause-room
returns-clause-room g c =
    let many : c.len-count.result ≡ length g.N.ClusterName.cluster.owned = c.len-count.ensures ∙ c.in_ok-owned.owned.ok.0
    ∙ ap (λ (l : List Set). length l) (c.in_ok-owned.ensures ∙ c.owned_sets.ensures.owned ∙ c.requires.cover) in
    record {
      one_room = c.in_ok-room.ensures;
      no_mark = c.in_ok-marks.ensures.items;
      for_marks = subst (λ n. n ≤ vec_capacity c.in_ok-marks.marks) many c.in_ok-marks.ensures.capacity;
    }

pub returns-clause-passes : goal.returns-clause-passes
returns-clause-passes g c = c.in_ok-ready.ensures.passes
