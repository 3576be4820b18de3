use Rattle.std.proofs.Common.{◌++◌, map, ap, ◌∙◌}
use Rattle.serde_json.specs.View.{view}
use Rattle.dcr_format.proofs.ValueLemmas.{value_moved}
use Rattle.dcr_part.specs.PartText.{number_value}
use Rattle.dcr_part.proofs.values.set_value.Goals as goal

pub loop-e-init : goal.loop-e-init
loop-e-init c =
    let all = c.into_iter-e-iterator.ensures.into_iter_gives ∙ c.iter-e-items.ensures in
    ap (λ vs. map view vs ++ map number_value c.into_iter-e-iterator.result) c.new-values.ensures.items ∙ ap (map number_value) all

pub loop-e-preserved : goal.loop-e-preserved
loop-e-preserved c =
    value_moved number_value c.loop-e.values.items c.push.new.self.items c.from.result c.in-Some.e c.loop-e.e-iterator c.next.new.self _
    c.in_ok-push.ensures.items (c.from.ensures ∙ ap number_value c.e.view_is) c.in-Some.ensures.steps c.loop-e.invariant
