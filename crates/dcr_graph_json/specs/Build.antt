-- The nested graph and the opening marking that a graph of the right shape and within the limits writes, and the facts by
-- which it is one.
use Rattle.std.specs.Prelude.{ℕ, Bool, true, false, not, ◌&&◌, ◌==◌, nat_lt, codes, List, [], ◌∷◌, length, map, Option, is_some, unwrap_or, slice_index_or}
use Rattle.std.specs.Option.{option_and_then, option_map, option_map_or}
use Rattle.serde_json.specs.Data.{Data, null}
use Rattle.dcr_set.specs.EventSet.{Set, those}
use Rattle.dcr_graph.specs.Names.{is_name, number_of}
use Rattle.dcr_graph.specs.Pairs.{Pair, first_clash}
use Rattle.dcr_graph.specs.declared.kind.Kind.TheVariants.{Condition}
use Rattle.dcr_graph.specs.declared.marking.Marking.{Marking}
use Rattle.dcr_nest.specs.FlatRelation.{flat_relation, of_atoms}
use Rattle.dcr_nest.specs.Nest.{Nest, nest, names_of, parents_of}
use Rattle.dcr_nest.specs.Tree.{atoms}
use Rattle.dcr_nest.specs.declared.node.Node.{Node}
use Rattle.dcr_format.specs.Facts.{Fact, each_below}
use Rattle.dcr_format.specs.Members.{mark_at}
use Rattle.dcr_format.specs.declared.stop.CaseStop.TheVariants.{EventName, Parent, MarkOnNest, RelationEnd, Clash}
use Rattle.dcr_graph_json.specs.Limits.{is_parent_name}
use Rattle.dcr_graph_json.specs.Written.{Written, Relation, name_in, parent_in, label_in, writes_mark, event_at, names_in, relation_in}
use Rattle.dcr_graph_json.specs.declared.opening.Mark.{Mark}
use Rattle.dcr_graph_json.specs.declared.opening.Mark.TheVariants.{Executed, Pending, Included}

-- ---- what is written

-- its name, the number of its parent's, and its label, which is the name where none is written
abbrev pub node_in : List (List ℕ) → Data → Node
node_in names event = record { name = name_in event; parent = option_and_then (number_of names) (parent_in event); label = unwrap_or (label_in event) (name_in event) }

abbrev pub nodes_in : List Data → List Node
nodes_in events = map (node_in (names_in events)) events

-- its kind, and the numbers of the source and the target
abbrev pub pair_of : List (List ℕ) → Relation → Option Pair
pair_of names relation = option_and_then (λ a. option_map (λ b. (relation.kind, a, b)) (number_of names relation.target)) (number_of names relation.source)

abbrev pub pair_in : List (List ℕ) → Data → Option Pair
pair_in names d = option_and_then (pair_of names) (relation_in d)

-- the pair of a relation that has none
abbrev pub no_pair : Pair
no_pair = (Condition, 0, 0)

abbrev pub pairs_in : List (List ℕ) → List Data → List Pair
pairs_in names relations = map (λ d. unwrap_or (pair_in names d) no_pair) relations

unfoldable pub nest_in : Written → Nest
nest_in w = nest w.version (nodes_in w.events) (pairs_in (names_in w.events) w.relations)

-- whether an event has the mark at the opening: one that writes none is included alone
abbrev pub has_mark : Mark → Data → Bool
has_mark Executed event = unwrap_or (mark_at (codes "executed") event) false
has_mark Pending event = unwrap_or (mark_at (codes "pending") event) false
has_mark Included event = unwrap_or (mark_at (codes "included") event) true

-- the atoms whose events have the mark, where these are the events of the atoms
abbrev pub marked : Mark → List ℕ → List Data → Set
marked mark atoms events = those (length atoms) (λ a. has_mark mark (event_at events (slice_index_or atoms a 0)))

abbrev pub opening_with : List ℕ → List Data → Marking
opening_with atoms events = record { executed = marked Executed atoms events; pending = marked Pending atoms events; included = marked Included atoms events }

unfoldable pub opening_in : Written → Marking
opening_in w = opening_with (atoms (parents_of (nodes_in w.events))) w.events

-- ---- the facts

-- the first event that has this name is this one, and it is a name
abbrev pub is_new_name : List (List ℕ) → ℕ → List ℕ → Bool
is_new_name names i name = option_map_or (λ k. k == i) (number_of names name) false && is_name name

-- its parent, where it has one, is an earlier event's name
abbrev pub has_earlier_parent : List (List ℕ) → ℕ → Data → Bool
has_earlier_parent names i event = option_map_or (λ text. option_map_or (λ k. nat_lt k i) (number_of names text) false) (parent_in event) true

-- it writes no mark where it is a parent
abbrev pub has_its_marks : List Data → Data → Bool
has_its_marks events event = not (is_parent_name events (name_in event) && writes_mark event)

abbrev pub names_fact : List Data → Fact
names_fact events = each_below (length events) (λ i. is_new_name (names_in events) i (name_in (event_at events i))) EventName

abbrev pub parents_fact : List Data → Fact
parents_fact events = each_below (length events) (λ i. has_earlier_parent (names_in events) i (event_at events i)) Parent

abbrev pub marks_fact : List Data → Fact
marks_fact events = each_below (length events) (λ i. has_its_marks events (event_at events i)) MarkOnNest

-- both ends of each relation are events' names
abbrev pub ends_fact : List (List ℕ) → List Data → Fact
ends_fact names relations = each_below (length relations) (λ i. is_some (pair_in names (slice_index_or relations i null))) RelationEnd

-- the names of the atoms
abbrev pub atom_names : Nest → List (List ℕ)
atom_names N = of_atoms (parents_of N.nodes) (names_of N.nodes)

-- no atom includes and excludes another; else the least such pair
abbrev pub clash_fact : Nest → Fact
clash_fact N = option_map (λ (pair : ℕ × ℕ). Clash (slice_index_or (atom_names N) pair.0 []) (slice_index_or (atom_names N) pair.1 [])) (first_clash (flat_relation N))

unfoldable pub build_facts : Written → List Fact
build_facts w =
    names_fact w.events
    ∷ parents_fact w.events
    ∷ marks_fact w.events
    ∷ ends_fact (names_in w.events) w.relations
    ∷ clash_fact (nest_in w)
    ∷ []
