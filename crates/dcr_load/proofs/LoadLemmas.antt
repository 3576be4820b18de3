-- A load has the limits of a case: its nodes and relations are a nested graph, its sites a cover.
use Rattle.std.proofs.Common.{◌≡◌, ℕ, ◌+◌, ◌*◌, ◌%◌, ◌<◌, true, false, ◌||◌, eqb, List, [], length, None, refl, sym, ap, subst, ◌∙◌, arith}
use Rattle.std.specs.List.{All}
use Rattle.std.proofs.lemmas.Bool.{eq-eqb}
use Rattle.std.proofs.lemmas.List.Elements.{All-weaker}
use Rattle.std.proofs.lemmas.List.Folds.{list_any_at}
use Rattle.dcr_graph.specs.Names.{AreDistinct}
use Rattle.dcr_graph.specs.Pairs.{Pair, first_clash}
use Rattle.dcr_graph.specs.Rules.{same_kind}
use Rattle.dcr_graph.specs.declared.kind.Kind.TheVariants.{Cancel}
use Rattle.dcr_graph.specs.GraphValue.{Flat}
use Rattle.dcr_graph.specs.Projection.{HasRoom}
use Rattle.dcr_graph.specs.declared.marking.Marking.{Marking}
use Rattle.dcr_nest.proofs.FlatLemmas.{length-of_atoms}
use Rattle.dcr_nest.specs.FlatRelation.{IsFlattening, flat_relation}
use Rattle.dcr_nest.specs.Nest.{Nest, IsNested, nest, names_of, parents_of}
use Rattle.dcr_nest.specs.Tree.{AreEarlier, atoms}
use Rattle.dcr_nest.specs.declared.node.Node.{Node}
use Rattle.dcr_nest.specs.declared.node.Version.TheVariants.{V1}
use Rattle.dcr_proj.specs.CoverValue.{Owners, IsCover, owners, atoms_of, is_owned}
use Rattle.dcr_set.specs.EventSet.{Set, has}
use Rattle.dcr_set.proofs.SetLemmas.{length-those, has-those}
use Rattle.dcr_load.specs.Each.{each_below}
use Rattle.dcr_load.specs.Words.{word, picked}
use Rattle.dcr_load.specs.LoadGraph.{atom_name, node_at, relation_at, load_nest}
use Rattle.dcr_load.specs.LoadCover.{site_name, owns, owned_by, load_cover, load_opening}
use Rattle.dcr_load.proofs.EachLemmas.{length-each_below, get_or-each_below, map-each_below, All-each_below, All-some_of_each_below, length-some_of_each_below}
use Rattle.dcr_load.proofs.NameLemmas.{lettered_distinct}
use Rattle.dcr_load.proofs.TopLemmas.{tops, tops_earlier, count_of_tops}
use Rattle.dcr_load.proofs.DrawnLemmas.{IsDrawn, drawn_is, no_clash}

-- what is picked is one of the choices
pub picked_below : (number place choices : ℕ) → 0 < choices → picked number place choices < choices
unfolding picked
picked_below number place choices some = let w = word number place in omega arith

-- ---- the graph

pub parents_of_load : (number : ℕ) → parents_of (load_nest number).nodes ≡ tops 200
parents_of_load number = map-each_below (λ (node : Node). node.parent) 200 node_at

names_of_load : (number : ℕ) → names_of (load_nest number).nodes ≡ each_below 200 atom_name
names_of_load number = map-each_below (λ (node : Node). node.name) 200 node_at

pub atoms_of_load : (number : ℕ) → length (atoms (parents_of (load_nest number).nodes)) ≡ 200
atoms_of_load number = ap (λ parents. length (atoms parents)) (parents_of_load number) ∙ count_of_tops 200

all_drawn : (number : ℕ) → All IsDrawn (load_nest number).relations
all_drawn number = All-some_of_each_below IsDrawn 600 (relation_at number) (λ t pair is.
    drawn_is (picked number (201 + 3 * t) 200) (picked number (202 + 3 * t) 200) (picked_below number (201 + 3 * t) 200 (omega arith)) (picked_below number (202 + 3 * t) 200 (omega arith)) (picked number (200 + 3 * t) 4) pair is)

pub load_is_nested : (number : ℕ) → IsNested (load_nest number)
load_is_nested number =
    let nodes = length-each_below 200 node_at in
    let relations = length-some_of_each_below 600 (relation_at number) in
    let atoms_are = atoms_of_load number in
    record {
      most_nodes = omega arith;
      most_atoms = omega arith;
      most_relations = omega arith;
      distinct = subst AreDistinct (sym (names_of_load number)) (lettered_distinct 101 200 (omega arith));
      earlier = subst AreEarlier (sym (parents_of_load number)) (tops_earlier 200);
      ends = All-weaker IsDrawn (λ (pair : Pair). (pair.1 < length (load_nest number).nodes) × (pair.2 < length (load_nest number).nodes))
          (λ pair drawn. let first = drawn.first in let second = drawn.second in (omega arith, omega arith)) (load_nest number).relations (all_drawn number);
      cancels = λ _. All-weaker IsDrawn (λ (pair : Pair). same_kind pair.0 Cancel ≡ false) (λ pair drawn. drawn.no_cancel) (load_nest number).relations (all_drawn number);
    }

pub load_has_no_clash : (number : ℕ) → first_clash (flat_relation (load_nest number)) ≡ None
load_has_no_clash number = no_clash (load_nest number) 200 (parents_of_load number) (all_drawn number)

-- the nodes and relations that are a load's are a nested graph
pub is_nested_as : (number : ℕ) (nodes : List Node) (relations : List Pair) → nodes ≡ (load_nest number).nodes → relations ≡ (load_nest number).relations → IsNested (nest V1 nodes relations)
is_nested_as number nodes relations same_nodes same_relations =
    subst IsNested (sym (ap (λ ns. nest V1 ns relations) same_nodes ∙ ap (nest V1 (load_nest number).nodes) same_relations)) (load_is_nested number)

-- ---- the cover

pub room_of_load : (number site : ℕ) → length (owned_by number site) ≡ 200
room_of_load number site = length-those 200 (owns number site)

pub rooms_of_load : (number atoms : ℕ) → atoms ≡ 200 → All (λ set. length set ≡ atoms) (load_cover number).owned
rooms_of_load number atoms all = All-each_below (λ set. length set ≡ atoms) 12 (owned_by number) (λ site _. room_of_load number site ∙ sym all)

first_room : (number : ℕ) → atoms_of (load_cover number).owned ≡ 200
first_room number = ap length (get_or-each_below 12 (owned_by number) 0 [] (omega arith)) ∙ room_of_load number 0

owned_by_its_site : (number atom : ℕ) → atom < 200 → is_owned (load_cover number).owned atom ≡ true
owned_by_its_site number atom within =
    let site = atom % 12 in
    let inside : site < 12 = omega arith in
    list_any_at (λ set. has set atom) (load_cover number).owned site [] (let many = length-each_below 12 (owned_by number) in omega arith)
    (ap (λ set. has set atom) (get_or-each_below 12 (owned_by number) site [] inside)
    ∙ has-those 200 (owns number site) atom within
    ∙ ap (λ t. t || eqb site (picked number atom 12)) (eq-eqb site site refl))

pub load_is_cover : (number : ℕ) → IsCover (load_cover number)
load_is_cover number =
    let names = length-each_below 12 site_name in
    let sets = length-each_below 12 (owned_by number) in
    record {
      some_site = omega arith;
      most_sites = omega arith;
      as_many = omega arith;
      distinct = lettered_distinct 115 12 (omega arith);
      rooms = rooms_of_load number _ (first_room number);
      covered = λ atom within. let all = first_room number in owned_by_its_site number atom (omega arith);
    }

pub is_cover_as : (number : ℕ) (names : List (List ℕ)) (owned : List Set) → names ≡ (load_cover number).names → owned ≡ (load_cover number).owned → IsCover (owners names owned)
is_cover_as number names owned same_names same_owned =
    subst IsCover (sym (ap (λ ns. owners ns owned) same_names ∙ ap (owners (load_cover number).names) same_owned)) (load_is_cover number)

-- ---- the parts of a load beside one another

-- a graph that is a load's has no clash
pub unclashed_as : (number : ℕ) (N : Nest) → N ≡ load_nest number → first_clash (flat_relation N) ≡ None
unclashed_as number N same = subst (λ M. first_clash (flat_relation M) ≡ None) (sym same) (load_has_no_clash number)

-- its flattening has 200 atoms
pub atom_count : (number : ℕ) (N : Nest) (G : Flat) → N ≡ load_nest number → IsFlattening N G → length G.names ≡ 200
atom_count number N G same flat =
    ap length flat.names ∙ length-of_atoms (parents_of N.nodes) (names_of N.nodes) ∙ ap (λ M. length (atoms (parents_of M.nodes))) same ∙ atoms_of_load number

-- each set of a cover that is a load's has a place for each of them
pub rooms_as : (number atoms : ℕ) (cover : Owners) → cover ≡ load_cover number → atoms ≡ 200 → All (λ set. length set ≡ atoms) cover.owned
rooms_as number atoms cover same all = subst (λ (owners : Owners). All (λ set. length set ≡ atoms) owners.owned) (sym same) (rooms_of_load number atoms all)

pub site_count : (number : ℕ) (cover : Owners) → cover ≡ load_cover number → length cover.names ≡ 12
site_count number cover same = ap (λ (owners : Owners). length owners.names) same ∙ length-each_below 12 site_name

-- so has the opening
pub opening_as : (atoms : ℕ) (opening : Marking) → opening ≡ load_opening → atoms ≡ 200 → HasRoom atoms opening
opening_as atoms opening same all = subst (HasRoom atoms) (sym same) (record {
  executed = length-those 200 (λ _. false) ∙ sym all;
  pending = length-those 200 (λ _. false) ∙ sym all;
  included = length-those 200 (λ _. true) ∙ sym all;
})
