-- What contracts see of what is lent from a case file.
use Rattle.std.specs.Prelude.{List, map}
use Rattle.serde_json.specs.Data.{Data}
use Rattle.serde_json.specs.View.{view}
use Rattle.serde_json.specs.declared.value.Value.{Value}
use Rattle.dcr_graph_json.specs.Written.{Written, Relation}
use Rattle.dcr_graph_json.specs.declared.relation.Relation.{Relation as Lent}
use Rattle.dcr_graph_json.specs.declared.written.GraphText.{GraphText}

abbrev pub views : List Value → List Data
views values = map view values

abbrev pub relation_seen : Lent → Relation
relation_seen relation = record { kind = relation.kind; source = relation.source.now; target = relation.target.now }

abbrev pub written : GraphText → Written
written text = record { version = text.version; events = views text.events.now; relations = views text.relations.now }
