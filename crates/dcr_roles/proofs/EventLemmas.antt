-- The objects of the events of a case file are those of its graph.
use Rattle.std.proofs.Common.{◌≡◌, codes, [], Option, Some, None, unwrap_or, refl}
use Rattle.std.specs.Option.{option_map_or}
use Rattle.serde_json.specs.Data.{Data}
use Rattle.serde_json.specs.Find.{get}
use Rattle.dcr_format.specs.Members.{elements}
use Rattle.dcr_graph_json.specs.Shape.{events_of}
use Rattle.dcr_json.specs.Written.{written_in}
use Rattle.dcr_roles.specs.Elements.{◌>>=◌, graph_elements}

pub events_same : (d : Data) → (written_in d).graph.events ≡ graph_elements (codes "events") d
unfolding written_in
events_same d = at (get (codes "graph") d)
  where
    at : (o : Option Data) → option_map_or events_of o [] ≡ unwrap_or (o >>= λ graph. get (codes "events") graph >>= elements) []
    at None = refl
    at (Some graph) = refl
