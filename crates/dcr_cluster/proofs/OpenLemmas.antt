-- The sites and the network that a cluster is opened with.
use Rattle.std.proofs.Common.{◌≡◌, List, [], length, map, sym, ap, subst, ◌∙◌}
use Rattle.dcr_set.specs.EventSet.{Set}
use Rattle.dcr_graph.specs.declared.marking.Marking.{Marking}
use Rattle.dcr_proj.specs.CoverValue.{atoms_of}
use Rattle.dcr_run.specs.SitesModel.{alphabets_in}
use Rattle.std.proofs.lemmas.List.{get_or-map}
use Rattle.dcr_set.proofs.SetLemmas.{length-those}
use Rattle.dcr_site.specs.Seen.{Seen}
use Rattle.dcr_site.specs.Together.{AllStand, AreOver}
use Rattle.dcr_turn.specs.TurnId.{TurnId}
use Rattle.dcr_cell.specs.ClusterId.{ClusterId, IsNamed, alphabet_of}
use Rattle.dcr_cluster.proofs.OpeningLemmas.{alphabets_of_stand, over_of_stand}

-- what is known of the sites, and of the network that a blank of the turn has
pub record Opens (c : ClusterId) (sites : List Seen) (network : List Set) : Type 0 where
  pub stand : AllStand c.rules c.owned c.opening sites
  pub alphabets : network ≡ alphabets_in sites
  pub over : AreOver c.rules.atoms sites
  pub atoms : atoms_of network ≡ c.rules.atoms

pub opens : (c : ClusterId) (turn blank : TurnId) (sites : List Seen) (network : List Set) (M : Marking) → IsNamed c turn → blank ≡ turn → network ≡ blank.alphabets → M ≡ c.opening
    → AllStand c.rules c.owned M sites → Opens c sites network
opens c turn blank sites network M named same is opening at = record {
  stand = stand;
  alphabets = is_named ∙ sym (alphabets_of_stand c.rules c.owned c.opening sites stand);
  over = over_of_stand c.rules c.owned c.opening sites named.rooms stand;
  atoms = ap atoms_of is_named ∙ ap length (get_or-map (alphabet_of c) c.owned 0 [] [] named.some_site) ∙ length-those c.rules.atoms _;
}
  where
    stand : AllStand c.rules c.owned c.opening sites
    stand = subst (λ (N : Marking). AllStand c.rules c.owned N sites) opening at

    is_named : network ≡ map (alphabet_of c) c.owned
    is_named = is ∙ ap (λ (t : TurnId). t.alphabets) same ∙ named.alphabets
