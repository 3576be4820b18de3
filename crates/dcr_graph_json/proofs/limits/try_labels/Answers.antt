use Rattle.std.proofs.Common.{map, Some, sym, ap, ◌∙◌, arith}
use Rattle.serde_json.specs.View.{view}
use Rattle.dcr_format.proofs.FactLemmas.{position_within}
use Rattle.dcr_format.specs.declared.stop.CaseStop.TheVariants.{Limit}
use Rattle.dcr_format.specs.declared.stop.LimitKind.TheVariants as kind
use Rattle.dcr_graph_json.specs.Limits.{has_short_label, label_bytes}
use Rattle.dcr_graph_json.specs.Written.{event_at}
use Rattle.dcr_graph_json.proofs.LoopLemmas.{each_value, label_fits, value_at}
use Rattle.dcr_graph_json.proofs.limits.try_labels.Goals as goal

pub bounds-events-i : goal.bounds-events-i
bounds-events-i c = position_within _ c.args.events.now c.in-Some.i (sym c.in-Some.ensures)

pub overflow_cast-result : goal.overflow_cast-result
overflow_cast-result c =
    let l = position_within _ c.args.events.now c.in-Some.i (sym c.in-Some.ensures) in
    omega (arith, label_fits c.args.events.now c.in-Some.i c.index-events-i.result c.requires l c.index-events-i.is)

pub returns-in-Some : goal.returns-in-Some
returns-in-Some c =
    let events = map view c.args.events.now in
    let l = position_within _ c.args.events.now c.in-Some.i (sym c.in-Some.ensures) in
    let bytes = c.label_len.ensures ∙ ap label_bytes (sym (value_at c.args.events.now c.in-Some.i c.index-events-i.result l c.index-events-i.is)) in
    ap (λ n. Some (Limit kind.Label n)) bytes
    ∙ each_value has_short_label (λ i. Limit kind.Label (label_bytes (event_at events i))) c.args.events.now _ c.in-Some.ensures

pub returns : goal.returns
returns c =
    let events = map view c.args.events.now in
    each_value has_short_label (λ i. Limit kind.Label (label_bytes (event_at events i))) c.args.events.now _ c.in_default.ensures
