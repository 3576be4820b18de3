use Rattle.std.proofs.Common.{◌≡◌, ◌<◌, Bool, true, false, refl, is_some, length, map, not, sym, ap, ◌∙◌, arith}
use Rattle.std.proofs.lemmas.List.{length-map}
use Rattle.std.proofs.lemmas.List.Sums.{count_by_more_yes, count_by_more_no}
use Rattle.serde_json.specs.Data.{Data, null}
use Rattle.serde_json.specs.View.{view}
use Rattle.dcr_graph.specs.Names.{number_of}
use Rattle.dcr_graph_json.specs.Limits.{is_parent_name}
use Rattle.dcr_graph_json.specs.Written.{name_in}
use Rattle.dcr_graph_json.proofs.LoopLemmas.{value_at}
use Rattle.dcr_graph_json.proofs.atoms.count_atoms.Goals as goal
use Rattle.dcr_graph_json.proofs.atoms.count_atoms.Goals.{then-is_none, else-is_none}

turned : (a b : Bool) → a ≡ not b → b ≡ not a
turned a true e = rw e refl
turned a false e = rw e refl

pub loop-event-preserved : goal.loop-event-preserved
loop-event-preserved c =
    let events = map view c.args.events.now in
    let i = c.loop-event.event-index in
    let test = λ (event : Data). not (is_parent_name events (name_in event)) in
    let found = ap test (value_at c.args.events.now i c.event-item.result c.loop-event-test.true c.event-item.is) in
    let held : c.is_none.result ≡ not (is_parent_name events (name_in (view c.event-item.result))) =
    turned _ _ c.is_none.ensures ∙ ap not (ap is_some c.find.ensures ∙ ap (λ text. is_some (number_of c.in_ok-parents.parents text)) (c.as_bytes.ensures.value ∙ c.name.ensures) ∙ c.in_ok-parents.ensures.parents (name_in (view c.event-item.result))) in
    let here : i < length events = omega (arith, length-map c.args.events.now view, c.loop-event-test.true) in
    elim c.if-is_none.branch [
      | then-is_none w ↦ let more = count_by_more_yes test events i null here (found ∙ (sym held ∙ w.if-is_none.true)) in omega arith
      | else-is_none w ↦ let more = count_by_more_no test events i null here (found ∙ (sym held ∙ w.if-is_none.false)) in omega arith
    ]
