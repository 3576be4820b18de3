use Rattle.std.proofs.Common.{ap, map, option_map, ◌∙◌, ◌∷◌, []}
use Rattle.std.proofs.lemmas.List.{map-append}
use Rattle.serde_json.specs.View.{view}
use Rattle.dcr_nest.proofs.MarkLemmas.{map_grown}
use Rattle.dcr_graph_json.specs.Text.{event_value_at}
use Rattle.dcr_graph_json.proofs.text.event_values.Goals as goal

pub loop-x-preserved : goal.loop-x-preserved
loop-x-preserved c =
    map_grown (event_value_at c.args.nested.now (option_map (λ m. m.now) c.args.opening)) c.loop-x.x (map view c.loop-x.values.items) (map view c.push.new.self.items) (view c.in_ok-event_value.field-0)
    c.loop-x.invariant c.in_ok-event_value.ensures (ap (map view) c.in_ok-push.ensures.items ∙ map-append view c.loop-x.values.items (c.in_ok-event_value.field-0 ∷ []))
