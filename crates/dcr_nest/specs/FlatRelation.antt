-- The flat relation of a nested graph, and what it is for a flat graph to be its flattening.
use Rattle.std.specs.Prelude.{◌≡◌, ℕ, Bool, ◌&&◌, ◌==◌, List, [], length, map, slice_index_or}
use Rattle.std.specs.List.{list_any, range_with_len}
use Rattle.dcr_set.specs.EventSet.{Set, has, those}
use Rattle.dcr_graph.specs.GraphValue.{Flat, rules_of}
use Rattle.dcr_graph.specs.Pairs.{Pair}
use Rattle.dcr_graph.specs.Rows.{leads}
use Rattle.dcr_graph.specs.Rules.{Rules, kind_number}
use Rattle.dcr_nest.specs.Nest.{Nest, names_of, labels_of, parents_of}
use Rattle.dcr_nest.specs.Tree.{Parents, atoms, atoms_below}

-- a written relation of the kind of this number has a at or below its first node and b at or below its second
unfoldable pub is_related : Parents → List Pair → ℕ → ℕ → ℕ → Bool
is_related parents relations kind a b = list_any (λ (pair : Pair). (kind_number pair.0 == kind) && (has (atoms_below parents pair.1) a && has (atoms_below parents pair.2) b)) relations

-- the relation between atoms
abbrev pub flat_relation : Nest → Rules
flat_relation N = record {
  atoms = length (atoms (parents_of N.nodes));
  related = λ kind a b. is_related (parents_of N.nodes) N.relations (kind_number kind) a b;
}

-- the texts of the atoms, from the texts of the nodes
abbrev pub of_atoms : Parents → List (List ℕ) → List (List ℕ)
of_atoms parents texts = map (λ x. slice_index_or texts x []) (atoms parents)

-- the graph has the names and labels of the atoms, in order, and is related as they are
pub record IsFlattening (N : Nest) (G : Flat) : Type 0 where
  pub names : G.names ≡ of_atoms (parents_of N.nodes) (names_of N.nodes)
  pub labels : G.labels ≡ of_atoms (parents_of N.nodes) (labels_of N.nodes)
  pub related : rules_of G ≡ flat_relation N

-- for each atom the set of those that it is related to
abbrev pub related_rows : Parents → List Pair → ℕ → List Set
related_rows parents relations kind =
    let n = length (atoms parents) in map (λ a. those n (is_related parents relations kind a)) (range_with_len 0 n)

-- a relation of the kind of this number goes from the node x to a node that has b below it
abbrev pub gathers : List Set → ℕ → ℕ → ℕ → Pair → Bool
gathers below kind x b pair = (kind_number pair.0 == kind) && ((x == pair.1) && leads below pair.2 b)
