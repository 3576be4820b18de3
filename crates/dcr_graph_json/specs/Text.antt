-- The JSON value of a nested graph, and its canonical text.
use Rattle.std.specs.Prelude.{ℕ, Bool, true, false, codes, List, [], ◌∷◌, length, map, Option, Some, None, option_map, slice_index_or, if◌then◌else◌}
use Rattle.std.specs.List.{range_with_len}
use Rattle.serde_json.specs.Data.{Data, boolean, string, array, object, no_items, item, no_members, member}
use Rattle.serde_json.specs.View.{items_of}
use Rattle.serde_json.specs.Written.{compact_text}
use Rattle.dcr_set.specs.EventSet.{Set, has}
use Rattle.dcr_graph.specs.KindText.{kind_text}
use Rattle.dcr_graph.specs.Pairs.{Pair}
use Rattle.dcr_graph.specs.declared.marking.Marking.{Marking}
use Rattle.dcr_nest.specs.Nest.{Nest, names_of, parents_of}
use Rattle.dcr_nest.specs.Tree.{atom_number}
use Rattle.dcr_nest.specs.declared.node.Node.{Node}
use Rattle.dcr_format.specs.Objects.{Entry, members_of}
use Rattle.dcr_graph_json.specs.declared.text.Marks.{Marks}

-- ---- the marks that are written

-- a mark where it is not the usual one
abbrev pub unusual : Bool → Bool → Option Bool
unusual true mark = if mark then None else Some false
unusual false mark = if mark then Some true else None

-- the mark that an atom has by a set, where it is not the usual one; a node that is no atom has none
abbrev pub mark_written : Bool → Set → Option ℕ → Option Bool
mark_written usual set None = None
mark_written usual set (Some atom) = unusual usual (has set atom)

-- where an opening is written: each mark that another is meant by than included alone
abbrev pub marks_of : Option Marking → Option ℕ → Marks
marks_of None atom = record { executed = None; pending = None; included = None }
marks_of (Some opening) atom = record { executed = mark_written false opening.executed atom; pending = mark_written false opening.pending atom; included = mark_written true opening.included atom }

-- ---- the value

-- the name of a node by its number
abbrev pub name_value : List (List ℕ) → ℕ → Data
name_value names x = string (slice_index_or names x [])

-- the members of an event's object, by ascending keys
abbrev pub event_entries : List (List ℕ) → Node → Marks → List Entry
event_entries names node marks =
    (codes "executed", option_map boolean marks.executed)
    ∷ (codes "included", option_map boolean marks.included)
    ∷ (codes "label", Some (string node.label))
    ∷ (codes "name", Some (string node.name))
    ∷ (codes "parent", option_map (name_value names) node.parent)
    ∷ (codes "pending", option_map boolean marks.pending)
    ∷ []

abbrev pub event_value : List (List ℕ) → Node → Marks → Data
event_value names node marks = object (members_of (event_entries names node marks))

-- a node of which nothing is known
abbrev pub no_node : Node
no_node = record { name = []; parent = None; label = [] }

abbrev pub event_value_at : Nest → Option Marking → ℕ → Data
event_value_at N opening x = event_value (names_of N.nodes) (slice_index_or N.nodes x no_node) (marks_of opening (atom_number (parents_of N.nodes) x))

-- the nodes in order
abbrev pub event_values : Nest → Option Marking → List Data
event_values N opening = map (event_value_at N opening) (range_with_len 0 (length N.nodes))

-- a relation: its kind, and the names of its source and of its target
abbrev pub relation_value : List (List ℕ) → Pair → Data
relation_value names relation = array (item (string (kind_text relation.0)) (item (name_value names relation.1) (item (name_value names relation.2) no_items)))

-- the relations in order, repeats too
abbrev pub relation_values : List (List ℕ) → List Pair → List Data
relation_values names relations = map (relation_value names) relations

-- `events` and `relations`
unfoldable pub graph_value : Nest → Option Marking → Data
graph_value N opening =
    object (member (codes "events") (array (items_of (event_values N opening))) (member (codes "relations") (array (items_of (relation_values (names_of N.nodes) N.relations))) no_members))

-- the compact text of the value without marks
unfoldable pub graph_text : Nest → List ℕ
graph_text N = compact_text (graph_value N None)
