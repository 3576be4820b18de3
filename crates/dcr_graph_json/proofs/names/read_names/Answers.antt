use Rattle.std.proofs.Common.{◌≡◌, ◌≢◌, true, Some, length, map, sym, ap, ◌∙◌, arith, rules}
use Rattle.std.proofs.lemmas.List.{length-map}
use Rattle.serde_json.specs.Data.{null}
use Rattle.serde_json.specs.View.{view}
use borrow.Author.Count.{below_more}
use Rattle.dcr_format.specs.Facts.{unless}
use Rattle.dcr_format.specs.declared.stop.CaseStop.TheVariants.{EventName, NoMemory}
use Rattle.dcr_format.proofs.FactLemmas.{below_none, below_stop, unless_holds}
use Rattle.dcr_graph_json.specs.Build.{is_new_name, names_fact}
use Rattle.dcr_graph_json.specs.Written.{event_at, name_in, names_in}
use Rattle.dcr_graph_json.proofs.LoopLemmas.{map_more, map_whole, value_at}
use Rattle.dcr_graph_json.proofs.names.read_names.Goals as goal

pub returns-in_err-name-clause-fact : goal.returns-in_err-name-clause-fact
returns-in_err-name-clause-fact c =
    let events = map view c.args.events.now in
    let i = c.loop-i.i in
    let here = value_at c.args.events.now i c.index-events-i.result c.loop-i-test.true c.index-events-i.is in
    let same : is_new_name (names_in events) i (name_in (event_at events i)) ≡ is_new_name c.args.index.now i c.name.result.now =
    ap (λ ns. is_new_name ns i (name_in (event_at events i))) (sym c.requires.index) ∙ ap (is_new_name c.args.index.now i) (ap name_in here ∙ sym c.name.ensures) in
    let stopped : c.in_err-name.field-0.0 ≢ NoMemory → names_fact events ≡ Some c.in_err-name.field-0.0 = λ memory.
    below_stop (length events) (λ k. is_new_name (names_in events) k (name_in (event_at events k))) EventName i c.in_err-name.field-0.0 (omega (arith, c.loop-i-test.true, length-map c.args.events.now view)) c.loop-i.invariant.new
    (ap (λ b. unless b (EventName i)) same ∙ c.in_err-name.ensures.fact memory) in
    search rules

pub loop-i-preserved : goal.loop-i-preserved
loop-i-preserved c =
    let events = map view c.args.events.now in
    let i = c.loop-i.i in
    let here = value_at c.args.events.now i c.index-events-i.result c.loop-i-test.true c.index-events-i.is in
    let same : is_new_name (names_in events) i (name_in (event_at events i)) ≡ is_new_name c.args.index.now i c.name.result.now =
    ap (λ ns. is_new_name ns i (name_in (event_at events i))) (sym c.requires.index) ∙ ap (is_new_name c.args.index.now i) (ap name_in here ∙ sym c.name.ensures) in
    record {
      names = map_more name_in events i null c.loop-i.names.items _ c.in_ok-name.name (omega (arith, c.loop-i-test.true, length-map c.args.events.now view)) c.loop-i.invariant.names c.in_ok-push.ensures.items
          (c.in_ok-name.ensures.name ∙ (c.name.ensures ∙ sym (ap name_in here)));
      new = below_more (λ k. is_new_name (names_in events) k (name_in (event_at events k)) ≡ true) i c.loop-i.invariant.new (same ∙ unless_holds (is_new_name c.args.index.now i c.name.result.now) (EventName i) c.in_ok-name.ensures.fact);
    }

pub returns-clause-fact : goal.returns-clause-fact
returns-clause-fact c =
    let events = map view c.args.events.now in
    below_none (length events) (λ k. is_new_name (names_in events) k (name_in (event_at events k))) EventName (λ k l. c.loop-i.invariant.new k (omega (arith, c.loop-i-test.false, length-map c.args.events.now view)))

pub returns-clause-names : goal.returns-clause-names
returns-clause-names c =
    let events = map view c.args.events.now in
    map_whole name_in events c.loop-i.i c.loop-i.names.items (omega (arith, c.loop-i-test.false, length-map c.args.events.now view)) c.loop-i.invariant.names
