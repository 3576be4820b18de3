-- The facts of the shape of a graph.
use Rattle.std.specs.Prelude.{Bool, true, false, not, ◌&&◌, codes, List, [], ◌∷◌, Option, unwrap_or}
use Rattle.std.specs.Option.{option_map_or}
use Rattle.serde_json.specs.Data.{Data}
use Rattle.serde_json.specs.Find.{get}
use Rattle.dcr_graph.specs.Rules.{same_kind}
use Rattle.dcr_graph.specs.declared.kind.Kind.{Kind}
use Rattle.dcr_graph.specs.declared.kind.Kind.TheVariants.{Cancel}
use Rattle.dcr_nest.specs.declared.node.Version.{Version}
use Rattle.dcr_nest.specs.declared.node.Version.TheVariants.{V1, V2}
use Rattle.dcr_format.specs.Facts.{Fact, unless, each}
use Rattle.dcr_format.specs.Members.{array_at, elements_or_none, has_array, has_text, may_have_array, may_have_mark, may_have_text}
use Rattle.dcr_format.specs.declared.stop.CaseStop.TheVariants.{Shape}
use Rattle.dcr_format.specs.declared.stop.Part.TheVariants as part
use Rattle.dcr_graph_json.specs.Written.{Written, Relation, relation_in}

-- an object with an array `events`, and with `relations` an array where it is there
abbrev pub is_graph : Data → Bool
is_graph d = has_array (codes "events") d && may_have_array (codes "relations") d

-- an object with a text `name`, and no named member of another type
abbrev pub is_event : Data → Bool
is_event d =
    has_text (codes "name") d
    && (may_have_text (codes "parent") d && (may_have_text (codes "label") d && (may_have_mark (codes "executed") d && (may_have_mark (codes "pending") d && may_have_mark (codes "included") d))))

-- cancel is a kind in the second version alone
abbrev pub is_of_version : Version → Kind → Bool
is_of_version V1 kind = not (same_kind kind Cancel)
is_of_version V2 kind = true

-- an array of three texts, the first of them the word of a kind of this version
abbrev pub is_relation : Version → Data → Bool
is_relation version d = option_map_or (λ (relation : Relation). is_of_version version relation.kind) (relation_in d) false

-- the elements of its arrays, and none where it has no such array
abbrev pub events_of : Data → List Data
events_of d = unwrap_or (array_at (codes "events") d) []

abbrev pub relations_of : Data → List Data
relations_of d = unwrap_or (elements_or_none (get (codes "relations") d)) []

-- what is written in the member `graph`, where it is there
abbrev pub written_in : Version → Option Data → Written
written_in version graph = record { version = version; events = option_map_or events_of graph []; relations = option_map_or relations_of graph [] }

unfoldable pub shape_facts : Version → Option Data → List Fact
shape_facts version graph =
    unless (option_map_or is_graph graph false) (Shape part.Graph 0)
    ∷ each is_event (Shape part.Event) (written_in version graph).events
    ∷ each (is_relation version) (Shape part.Relation) (written_in version graph).relations
    ∷ []
