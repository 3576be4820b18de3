use Rattle.std.proofs.Common.{◌<◌, Bor, List, ℕ, ◌∷◌, [], ◌++◌, length, map, take, sym, ap, ◌∙◌, arith}
use Rattle.std.proofs.lemmas.List.{length-map, map_push, take_more, take_all}
use Rattle.serde_json.specs.View.{view}
use Rattle.dcr_graph_json.specs.Written.{name_in, names_in}
use Rattle.dcr_graph_json.proofs.LoopLemmas.{name_at_value}
use Rattle.dcr_graph_json.proofs.names.name_texts.Goals as goal

pub loop-event-preserved : goal.loop-event-preserved
loop-event-preserved c =
    let events = map view c.args.events.now in
    let i = c.loop-event.event-index in
    let within : i < length (names_in events) = omega (arith, c.loop-event-test.true, length-map c.args.events.now view, length-map events name_in) in
    ap (map (λ (text : Bor (List ℕ)). text.now)) c.in_ok-push.ensures.items ∙ (map_push (λ (text : Bor (List ℕ)). text.now) c.loop-event.texts.items c.as_bytes.result
    ∙ (ap (λ ns. ns ++ c.as_bytes.result.now ∷ []) c.loop-event.invariant
    ∙ (ap (λ n. take i (names_in events) ++ n ∷ []) (c.as_bytes.ensures.value ∙ (c.name.ensures ∙ sym (name_at_value c.args.events.now i c.event-item.result c.loop-event-test.true c.event-item.is)))
    ∙ sym (take_more (names_in events) i [] within))))

pub returns-clause-texts : goal.returns-clause-texts
returns-clause-texts c =
    let events = map view c.args.events.now in
    c.loop-event.invariant ∙ take_all c.loop-event.event-index (names_in events) (omega (arith, c.loop-event-test.false, length-map c.args.events.now view, length-map events name_in))
