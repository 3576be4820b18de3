-- A nested graph as contracts see it.
use Rattle.std.specs.Prelude.{◌≡◌, ℕ, ◌≤◌, false, List, length, map}
use Rattle.std.specs.List.{All}
use Rattle.dcr_graph.specs.Names.{AreDistinct}
use Rattle.dcr_graph.specs.Pairs.{Pair, AreInRange}
use Rattle.dcr_graph.specs.Rules.{same_kind}
use Rattle.dcr_graph.specs.declared.kind.Kind.TheVariants.{Cancel}
use Rattle.dcr_nest.specs.Tree.{Parents, AreEarlier, atoms}
use Rattle.dcr_nest.specs.declared.node.Node.{Node}
use Rattle.dcr_nest.specs.declared.node.Version.{Version}
use Rattle.dcr_nest.specs.declared.node.Version.TheVariants.{V1}

-- the version, the nodes in order, and the written relations: each a kind and two nodes
pub record Nest : Type 0 where
  pub version : Version
  pub nodes : List Node
  pub relations : List Pair

abbrev pub nest : Version → List Node → List Pair → Nest
nest version nodes relations = record { version = version; nodes = nodes; relations = relations }

abbrev pub names_of : List Node → List (List ℕ)
names_of nodes = map (λ (node : Node). node.name) nodes

abbrev pub labels_of : List Node → List (List ℕ)
labels_of nodes = map (λ (node : Node). node.label) nodes

abbrev pub parents_of : List Node → Parents
parents_of nodes = map (λ (node : Node). node.parent) nodes

-- within the limits, no name twice, each parent earlier, the ends of relations nodes, and no cancel in version 1
pub record IsNested (N : Nest) : Type 0 where
  pub most_nodes : length N.nodes ≤ 2048
  pub most_atoms : length (atoms (parents_of N.nodes)) ≤ 1024
  pub most_relations : length N.relations ≤ 4096
  pub distinct : AreDistinct (names_of N.nodes)
  pub earlier : AreEarlier (parents_of N.nodes)
  pub ends : AreInRange (length N.nodes) N.relations
  pub cancels : N.version ≡ V1 → All (λ (pair : Pair). same_kind pair.0 Cancel ≡ false) N.relations
