-- The value of a nested graph is read back from its text.
use Rattle.std.proofs.Common.{ℕ, Bool, codes, List, [], ◌∷◌, length, slice_index_or, Option, Some, refl, arith}
use Rattle.std.specs.List.{range_with_len}
use Rattle.serde_json.specs.Data.{array, boolean}
use Rattle.serde_json.specs.View.{items_of}
use Rattle.dcr_graph.specs.KindText.{kind_text}
use Rattle.dcr_graph.specs.Pairs.{Pair}
use Rattle.dcr_graph.specs.declared.marking.Marking.{Marking}
use Rattle.dcr_nest.specs.Nest.{Nest, names_of}
use Rattle.dcr_nest.specs.declared.node.Node.{Node}
use Rattle.dcr_format.specs.Objects.{Entry}
use Rattle.dcr_format.proofs.EntryLemmas.{of_mapped, plain_entries}
use Rattle.dcr_format.proofs.PlainLemmas.{IsPlain, no_plain_item, plain_array, plain_item, plain_items, plain_string}
use Rattle.dcr_graph_json.specs.Text.{event_entries, event_value, event_value_at, event_values, graph_value, name_value, relation_value, relation_values}
use Rattle.dcr_graph_json.specs.declared.text.Marks.{Marks}

plain_boolean : (b : Bool) → IsPlain 0 (boolean b)
plain_boolean b = record { no_float = refl; numbers = tt; reads = refl; shallow = omega arith }

plain_event : (names : List (List ℕ)) (node : Node) (marks : Marks) → IsPlain 1 (event_value names node marks)
plain_event names node marks =
    let bools = of_mapped (IsPlain 0) boolean plain_boolean in
    let texts = of_mapped (IsPlain 0) (name_value names) (λ p. plain_string 0 (slice_index_or names p [])) in
    plain_entries 0 (event_entries names node marks)
    (tt, ((refl, tt), ((refl, (refl, tt)), ((refl, (refl, (refl, tt))), ((refl, (refl, (refl, (refl, tt)))), ((refl, (refl, (refl, (refl, (refl, tt))))), tt))))))
    (bools marks.executed, (bools marks.included, (plain_string 0 node.label, (plain_string 0 node.name, (texts node.parent, (bools marks.pending, tt))))))

plain_relation : (names : List (List ℕ)) (relation : Pair) → IsPlain 1 (relation_value names relation)
plain_relation names relation =
    plain_array 0 _
    (plain_item 0 _ _ (plain_string 0 (kind_text relation.0))
    (plain_item 0 _ _ (plain_string 0 (slice_index_or names relation.1 [])) (plain_item 0 _ _ (plain_string 0 (slice_index_or names relation.2 [])) (no_plain_item 0))))

pub plain_graph : (N : Nest) (opening : Option Marking) → IsPlain 3 (graph_value N opening)
unfolding graph_value
plain_graph N opening =
    let events : Entry = (codes "events", Some (array (items_of (event_values N opening)))) in
    let relations : Entry = (codes "relations", Some (array (items_of (relation_values (names_of N.nodes) N.relations)))) in
    plain_entries 2 (events ∷ relations ∷ []) (tt, ((refl, tt), tt)) (
      plain_array 1 _ (plain_items 1 (event_value_at N opening) (λ x. plain_event (names_of N.nodes) _ _) (range_with_len 0 (length N.nodes))),
      (plain_array 1 _ (plain_items 1 (relation_value (names_of N.nodes)) (plain_relation (names_of N.nodes)) N.relations), tt),
    )
