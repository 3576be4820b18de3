use Rattle.std.proofs.Common.{◌≡◌, ◌<◌, [], length, sym, ap, subst, ◌∙◌, arith}
use Rattle.std.specs.Prelude.{slice_index_or}
use Rattle.dcr_proj.specs.CoverValue.{atoms_of}
use Rattle.dcr_proj.specs.NetworkValue.{IsNetwork}
use Rattle.dcr_site.specs.Together.{AreOver}
use Rattle.dcr_run.specs.SitesModel.{alphabets_in}
use Rattle.dcr_run.proofs.SitesLemmas.{network_of}
use Rattle.dcr_run.proofs.sites.Sites.open.Goals as goal
use Rattle.dcr_run.proofs.sites.Sites.open.Goals.{In_ok-opened}

-- the network of the sites that were opened
network : (c : In_ok-opened) → IsNetwork (alphabets_in c.in_ok-opened.opened.members.items) × (atoms_of (alphabets_in c.in_ok-opened.opened.members.items) ≡ length c.args.graph.now.names)
network c =
    let sets : length c.owned_sets.result.now ≡ length c.args.cover.now.owned = ap (λ s. length s) c.owned_sets.ensures.owned in
    network_of (length c.args.graph.now.names) c.in_ok-opened.opened.members.items c.in_ok-opened.ensures.over
    (omega (arith, c.in_ok-opened.ensures.stand.as_many, sets, c.owned_sets.ensures.cover.as_many, c.owned_sets.ensures.cover.some_site))
    (omega (arith, c.in_ok-opened.ensures.stand.as_many, sets, c.owned_sets.ensures.cover.as_many, c.owned_sets.ensures.cover.most_sites))

pub new-requires : goal.new-requires
new-requires c = subst IsNetwork (sym c.in_ok-opened.ensures.alphabets) (network c).0

pub invariant_of-result : goal.invariant_of-result
invariant_of-result c =
    let b = (goal.at.invariant_of-result c).In_ok-opened in
    let is : c.in_ok-network.network ≡ alphabets_in c.in_ok-opened.opened.members.items = c.in_ok-network.ensures ∙ c.in_ok-opened.ensures.alphabets in
    record {
      over = subst (λ n. AreOver n c.in_ok-opened.opened.members.items) (sym (ap atoms_of is ∙ (network b).1)) c.in_ok-opened.ensures.over;
      alphabets = is;
    }

pub returns-clause-atoms : goal.returns-clause-atoms
returns-clause-atoms c =
    let b = (goal.at.returns-clause-atoms c).In_ok-opened in
    ap atoms_of (c.in_ok-network.ensures ∙ c.in_ok-opened.ensures.alphabets) ∙ (network b).1

pub returns-clause-covers : goal.returns-clause-covers
returns-clause-covers c = λ atom below.
    let some : 0 < length c.args.cover.now.owned = omega (arith, c.owned_sets.ensures.cover.as_many, c.owned_sets.ensures.cover.some_site) in
    let room : length (slice_index_or c.args.cover.now.owned 0 []) ≡ length c.args.graph.now.names = c.requires.rooms 0 [] some in
    c.owned_sets.ensures.cover.covered atom (omega arith)
