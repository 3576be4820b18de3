use Rattle.std.proofs.Common.{[], ◌∷◌, get_or, map, ap, ◌∙◌}
use Rattle.std.proofs.lemmas.List.{map-append}
use Rattle.serde_json.specs.View.{view}
use Rattle.dcr_nest.proofs.MarkLemmas.{map_grown}
use Rattle.dcr_cover_json.specs.Text.{site_value, site_value_at}
use Rattle.dcr_cover_json.proofs.text.site_values.Goals as goal

pub loop-number-preserved : goal.loop-number-preserved
loop-number-preserved c =
    let atoms = c.args.graph.now.names in
    let cover = c.args.cover.now in
    let i = c.loop-number.number in
    map_grown (site_value_at atoms cover) i (map view c.loop-number.values.items) (map view c.push.new.self.items) (view c.in_ok-site_value.field-0) c.loop-number.invariant
    (c.in_ok-site_value.ensures ∙ ap (λ name. site_value atoms name c.owned.result.now) c.name.ensures ∙ ap (site_value atoms (get_or cover.names i [])) c.owned.ensures.owned)
    (ap (map view) c.in_ok-push.ensures.items ∙ map-append view c.loop-number.values.items (c.in_ok-site_value.field-0 ∷ []))
