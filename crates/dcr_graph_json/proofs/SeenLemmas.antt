-- The texts of nodes that were looked at are names and labels.
use Rattle.std.proofs.Common.{◌≡◌, true, List, IsUtf8}
use Rattle.std.specs.List.{All}
use Rattle.std.proofs.lemmas.List.Elements.{All-map, All-weaker}
use Rattle.dcr_graph.specs.Names.{is_label, is_name}
use Rattle.dcr_nest.specs.Nest.{labels_of, names_of}
use Rattle.dcr_nest.specs.declared.node.Node.{Node}
use Rattle.dcr_format.specs.Texts.{AreAllNames}

-- the texts of a node that were looked at
pub record IsSeen (node : Node) : Type 0 where
  pub name : is_name node.name ≡ true
  pub label : is_label node.label ≡ true
  pub text : IsUtf8 node.label

pub names_seen : (nodes : List Node) → All IsSeen nodes → AreAllNames (names_of nodes)
names_seen nodes seen = All-map (λ name. is_name name ≡ true) (λ (node : Node). node.name) nodes (All-weaker IsSeen (λ node. is_name node.name ≡ true) (λ node s. s.name) nodes seen)

pub labels_seen : (nodes : List Node) → All IsSeen nodes → All (λ label. is_label label ≡ true) (labels_of nodes)
labels_seen nodes seen = All-map (λ label. is_label label ≡ true) (λ (node : Node). node.label) nodes (All-weaker IsSeen (λ node. is_label node.label ≡ true) (λ node s. s.label) nodes seen)

pub texts_seen : (nodes : List Node) → All IsSeen nodes → All IsUtf8 (labels_of nodes)
texts_seen nodes seen = All-map IsUtf8 (λ (node : Node). node.label) nodes (All-weaker IsSeen (λ node. IsUtf8 node.label) (λ node s. s.text) nodes seen)
