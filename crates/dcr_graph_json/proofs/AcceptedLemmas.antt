-- What holds all facts of a graph is accepted.
use Rattle.std.proofs.Common.{◌≡◌, ℕ, true, codes, List, [], ◌∷◌, get_or, Option, Some, None, unwrap_or, IsUtf8, refl, sym, subst, arith}
use Rattle.std.specs.List.{All, AllByRecursion}
use Rattle.std.specs.Option.{option_and_then, option_map_or}
use Rattle.std.proofs.lemmas.List.{get_or-map, length-map}
use Rattle.std.proofs.lemmas.List.Elements.{All-from_recursion, All-map}
use Rattle.serde_json.specs.Data.{Data, null, boolean, number, string, array, object, Items, no_items, item}
use Rattle.serde_json.specs.Find.{as_str, get}
use Rattle.dcr_graph.specs.Names.{is_name}
use Rattle.dcr_nest.specs.Nest.{labels_of}
use Rattle.dcr_nest.specs.declared.node.Node.{Node}
use Rattle.dcr_nest.specs.declared.node.Version.{Version}
use Rattle.dcr_format.specs.Facts.{each, first}
use Rattle.dcr_format.specs.Members.{elements, listed}
use Rattle.dcr_format.specs.Texts.{AreAllNames}
use Rattle.dcr_format.specs.declared.stop.CaseStop.TheVariants.{Shape}
use Rattle.dcr_format.specs.declared.stop.Part.TheVariants as part
use Rattle.dcr_format.proofs.FactLemmas.{each_holds, first_none}
use Rattle.dcr_format.proofs.NameLemmas.{names_utf8}
use Rattle.dcr_graph_json.specs.Accepted.{IsAcceptedGraph, graph_facts}
use Rattle.dcr_graph_json.specs.Build.{build_facts as graph_build, clash_fact, ends_fact, marks_fact, names_fact, nest_in, node_in, nodes_in, parents_fact}
use Rattle.dcr_graph_json.specs.Limits.{limit_facts as graph_limits}
use Rattle.dcr_graph_json.specs.Shape.{events_of, is_event, is_relation, shape_facts as graph_shape, written_in as graph_in}
use Rattle.dcr_graph_json.specs.Written.{label_in, name_in, names_in}
use Rattle.dcr_graph_json.proofs.FlatLemmas.{unclashed}
use Rattle.dcr_graph_json.proofs.NodeLemmas.{is_nested, kept, labels_short, names_named, node_names}
use Rattle.dcr_format.proofs.StageLemmas.{all_three}
use Rattle.dcr_format.proofs.TextValueLemmas.{IsTextValue, AreTextItems, get_text}

-- ---- the labels that are written

listed_text : (ds : Items) → AreTextItems ds → AllByRecursion IsTextValue (listed ds)
listed_text no_items h = tt
listed_text (item d ds) h = (h.0, listed_text ds h.1)

elements_text : (d : Data) → IsTextValue d → AllByRecursion IsTextValue (unwrap_or (elements d) [])
elements_text null h = tt
elements_text (boolean b) h = tt
elements_text (number n) h = tt
elements_text (string s) h = tt
elements_text (array ds) h = listed_text ds h
elements_text (object ms) h = tt

-- and so are those of the member of a value, where it is there
abbrev pub IsTextMember : Option Data → Type 0
IsTextMember o = (part : Data) → o ≡ Some part → IsTextValue part

pub member_text : (name : List ℕ) (d : Data) → IsTextValue d → IsTextMember (get name d)
member_text name d h part e = get_text name d part h e

events_text : (graph : Option Data) → IsTextMember graph → AllByRecursion IsTextValue (option_map_or events_of graph [])
events_text None h = tt
events_text (Some d) h = at (get (codes "events") d) refl
  where
    at : (o : Option Data) → get (codes "events") d ≡ o → AllByRecursion IsTextValue (unwrap_or (option_and_then elements o) [])
    at None e = tt
    at (Some part) e = elements_text part (get_text (codes "events") d part (h d refl) e)

one_name : (name : List ℕ) → is_name name ≡ true → AreAllNames (name ∷ [])
one_name name is = All-from_recursion (λ text. is_name text ≡ true) (name ∷ []) (is, tt)

-- a name is UTF-8
pub name_text : (name : List ℕ) → is_name name ≡ true → IsUtf8 name
name_text name is = names_utf8 (name ∷ []) (one_name name is) 0 [] (omega arith)

string_text : (d : Data) (name : List ℕ) → IsUtf8 name → IsTextValue d → IsUtf8 (unwrap_or (as_str d) name)
string_text null name named h = named
string_text (boolean b) name named h = named
string_text (number n) name named h = named
string_text (string s) name named h = h
string_text (array ds) name named h = named
string_text (object ms) name named h = named

label_text : (event : Data) → IsTextValue event → IsUtf8 (name_in event) → IsUtf8 (unwrap_or (label_in event) (name_in event))
label_text event h named = at (get (codes "label") event) refl
  where
    at : (o : Option Data) → get (codes "label") event ≡ o → IsUtf8 (unwrap_or (option_and_then as_str o) (name_in event))
    at None e = named
    at (Some part) e = string_text part (name_in event) named (get_text (codes "label") event part h e)

labels_text : (events : List Data) → AllByRecursion IsTextValue events → AreAllNames (names_in events) → All IsUtf8 (labels_of (nodes_in events))
labels_text events h named =
    let texts = All-from_recursion IsTextValue events h in
    All-map IsUtf8 (λ (node : Node). node.label) (nodes_in events) (All-map (λ (node : Node). IsUtf8 node.label) (node_in (names_in events)) events (λ k d l.
    label_text (get_or events k d) (texts k d l)
    (subst IsUtf8 (get_or-map name_in events k d [] l) (names_utf8 (names_in events) named k [] (omega (arith, length-map events name_in))))))

-- ---- the nested graph

-- what holds all facts of a graph is one that is accepted
pub graph_accepted : (version : Version) (graph : Option Data) → IsTextMember graph → first (graph_facts version graph) ≡ None → IsAcceptedGraph version (nest_in (graph_in version graph))
unfolding graph_shape graph_build nest_in
graph_accepted version graph text holds =
    let w = graph_in version graph in
    let parts = all_three (graph_shape version graph) (graph_limits w) (graph_build w) holds in
    let events = first_none _ (each is_event (Shape part.Event) w.events ∷ each (is_relation version) (Shape part.Relation) w.relations ∷ []) parts.0 in
    let relations = first_none (each is_event (Shape part.Event) w.events) (each (is_relation version) (Shape part.Relation) w.relations ∷ []) events.1 in
    let kinds = each_holds (is_relation version) (Shape part.Relation) w.relations (first_none (each (is_relation version) (Shape part.Relation) w.relations) [] relations.1).0 in
    let ends = ends_fact (names_in w.events) w.relations in
    let clash = clash_fact (nest_in w) in
    let names = first_none (names_fact w.events) (parents_fact w.events ∷ marks_fact w.events ∷ ends ∷ clash ∷ []) parts.2 in
    let parents = first_none (parents_fact w.events) (marks_fact w.events ∷ ends ∷ clash ∷ []) names.1 in
    let marks = first_none (marks_fact w.events) (ends ∷ clash ∷ []) parents.1 in
    let pairs = first_none ends (clash ∷ []) marks.1 in
    let named = names_named w.events names.0 in
    record {
      of_version = refl;
      nested = is_nested w parts.1 kinds names.0 parents.0 pairs.0;
      names = subst AreAllNames (sym (node_names w.events names.0)) named;
      labels = labels_short w.events names.0 (kept w parts.1).labels;
      texts = labels_text w.events (events_text graph text) named;
      unclashed = unclashed (nest_in w) (first_none clash [] pairs.1).0;
    }
