-- What owned texts mean: one text, and one text more.
use Rattle.std.proofs.Common.{◌≡◌, ℕ, ◌+◌, ◌<◌, false, ◌||◌, List, [], length, get_or, take, Option, Some, None, refl, sym, ap, ◌∙◌, arith}
use Rattle.std.specs.List.{list_any}
use Rattle.std.specs.Option.{option_map, option_map_or}
use Rattle.std.proofs.lemmas.List.{length-map}
use Rattle.std.proofs.lemmas.List.Folds.{list_any_more}
use Rattle.std.proofs.lemmas.Option.{same_Some}
use Rattle.dcr_set.specs.EventSet.{Set, has, those, no_event, union}
use Rattle.dcr_set.proofs.LeastLemmas.{least-some}
use Rattle.dcr_set.proofs.SetLemmas.{has-those, those-ext}
use Rattle.dcr_graph.specs.GraphValue.{Flat}
use Rattle.dcr_graph.specs.Names.{number_of}
use Rattle.dcr_nest.specs.FlatRelation.{IsFlattening}
use Rattle.dcr_nest.specs.Nest.{Nest, names_of, parents_of}
use Rattle.dcr_nest.specs.Tree.{atoms_below, is_at_or_below}
use Rattle.dcr_nest.specs.declared.node.Node.{Node}
use Rattle.dcr_nest.proofs.FlatLemmas.{has-atoms_below, length-of_atoms}
use Rattle.dcr_cover_json.specs.Sites.{atom_count, means, node_named, node_of, set_meant}

-- a flattening has a name for each atom
pub many_names : (N : Nest) (G : Flat) → IsFlattening N G → length G.names ≡ atom_count N
many_names N G flat = ap (λ (names : List (List ℕ)). length names) flat.names ∙ length-of_atoms (parents_of N.nodes) (names_of N.nodes)

-- a text names a node that there is
pub node_within : (N : Nest) (text : List ℕ) (node : ℕ) → node_named N text ≡ Some node → node < length N.nodes
node_within N text node named = let first = (least-some _ _ node named).below in omega (arith, length-map N.nodes (λ (n : Node). n.name))

-- the node that an index of the names finds
pub node_found : (N : Nest) (names : List (List ℕ)) (seen text : List ℕ) (node : ℕ) → names ≡ names_of N.nodes → seen ≡ text → Some node ≡ number_of names seen → node_named N text ≡ Some node
node_found N names seen text node named same e = ap (λ ns. number_of ns text) (sym named) ∙ (ap (number_of names) (sym same) ∙ sym e)

-- the node whose atoms were found
pub found_below : (N : Nest) (text : List ℕ) (events : Set) → Some events ≡ option_map (atoms_below (parents_of N.nodes)) (node_named N text)
    → (node : ℕ) × (node_named N text ≡ Some node) × (events ≡ atoms_below (parents_of N.nodes) node)
found_below N text events e = at (node_named N text) refl e
  where
    at : (o : Option ℕ) → node_named N text ≡ o → Some events ≡ option_map (atoms_below (parents_of N.nodes)) o → (node : ℕ) × (node_named N text ≡ Some node) × (events ≡ atoms_below (parents_of N.nodes) node)
    at None named e = absurd cc
    at (Some node) named e = (node, named, same_Some _ _ e)

-- a text means the atoms at or below the node that it names
pub means_below : (N : Nest) (text : List ℕ) (node atom : ℕ) → node_named N text ≡ Some node → atom < atom_count N → has (atoms_below (parents_of N.nodes) node) atom ≡ means N text atom
means_below N text node atom named within =
    has-atoms_below (parents_of N.nodes) node atom within ∙ sym (ap (λ o. option_map_or (is_at_or_below (parents_of N.nodes) (node_of N atom)) o false) named)

-- no text means nothing
pub set_none : (N : Nest) (n : ℕ) (set : Set) → set ≡ no_event n → n ≡ atom_count N → set ≡ set_meant N []
set_none N n set empty room = empty ∙ ap no_event room

-- one text more
pub set_more : (N : Nest) (texts : List (List ℕ)) (j : ℕ) (set events joined : Set) → j < length texts → set ≡ set_meant N (take j texts) → length set ≡ atom_count N
    → Some events ≡ option_map (atoms_below (parents_of N.nodes)) (node_named N (get_or texts j [])) → joined ≡ union set events → joined ≡ set_meant N (take (j + 1) texts)
set_more N texts j set events joined within before room here union_is =
    let found = found_below N (get_or texts j []) events here in
    union_is ∙ ap (λ n. those n (λ k. has set k || has events k)) room
    ∙ those-ext (atom_count N) (λ k. has set k || has events k) (λ atom. list_any (λ text. means N text atom) (take (j + 1) texts)) (λ k below.
    ap (λ s. has s k || has events k) before
    ∙ ap (λ t. t || has events k) (has-those (atom_count N) (λ atom. list_any (λ text. means N text atom) (take j texts)) k below)
    ∙ ap (λ b. list_any (λ text. means N text k) (take j texts) || b) (ap (λ s. has s k) found.2 ∙ means_below N (get_or texts j []) found.0 k found.1 below)
    ∙ sym (list_any_more (λ text. means N text k) texts j [] within))
