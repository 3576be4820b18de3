use Rattle.std.proofs.Common.{sym, ap, ◌∙◌, map, arith}
use Rattle.std.specs.Option.{option_copied}
use Rattle.std.proofs.lemmas.List.{map_push}
use Rattle.std.proofs.lemmas.Option.{get_or_from_slice_get}
use Rattle.serde_json.specs.View.{view}
use Rattle.dcr_journal.specs.declared.call.Call.TheVariants.{Accepting}
use Rattle.dcr_format.proofs.ValueLemmas.{map_more}
use Rattle.dcr_session_json.specs.Value.{call_value}
use Rattle.dcr_session_json.proofs.value.call_values.Goals as goal

pub loop-place-preserved : goal.loop-place-preserved
loop-place-preserved c =
    let text = call_value c.args.cover.now.names c.args.graph.now.names in
    let at = get_or_from_slice_get c.args.calls.now c.loop-place.place c.in-Some.call.now Accepting (sym c.get.ensures ∙ ap option_copied c.in-Some.is) in
    map_more text c.args.calls.now c.loop-place.place Accepting (map view c.loop-place.values.items) _ (view c.in_ok-call_value.field-0) (omega arith) c.loop-place.invariant
    (ap (map view) c.in_ok-push.ensures.items ∙ map_push view c.loop-place.values.items c.in_ok-call_value.field-0) (c.in_ok-call_value.ensures ∙ ap text (sym at))
