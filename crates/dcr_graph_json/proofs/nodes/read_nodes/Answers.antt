use Rattle.std.proofs.Common.{◌<◌, ℕ, List, [], ◌∷◌, ◌++◌, IsUtf8, subst, get_or, ◌≡◌, ◌≢◌, ◌+◌, true, Some, length, map, take, sym, ap, ◌∙◌, arith, rules}
use Rattle.std.proofs.lemmas.Iterator.Adapters.{YieldsList-from_vec}
use Rattle.std.proofs.lemmas.Iterator.Consumers.{YieldsList-end, YieldsList-turn}
use Rattle.std.proofs.lemmas.List.{get_or-map, length-map, length_push, map_push}
use Rattle.std.specs.List.{All}
use Rattle.std.proofs.lemmas.List.Elements.{All-push}
use Rattle.dcr_nest.specs.Nest.{labels_of}
use Rattle.dcr_nest.specs.declared.node.Node.{Node}
use Rattle.serde_json.specs.Data.{null}
use Rattle.serde_json.specs.View.{view}
use borrow.Author.Count.{below_more}
use Rattle.dcr_format.specs.Facts.{unless}
use Rattle.dcr_format.specs.declared.stop.CaseStop.TheVariants.{Parent, NoMemory}
use Rattle.dcr_format.proofs.FactLemmas.{below_none, below_stop, unless_holds}
use Rattle.dcr_graph_json.specs.Build.{has_earlier_parent, node_in, parents_fact}
use Rattle.dcr_graph_json.specs.Written.{event_at, name_in, names_in}
use Rattle.dcr_graph_json.proofs.LoopLemmas.{map_more, map_whole, value_at}
use Rattle.dcr_graph_json.proofs.nodes.read_nodes.Goals as goal

-- one node more
grown_texts : (before after : List Node) (node : Node) → after ≡ before ++ node ∷ [] → All IsUtf8 (labels_of before) → IsUtf8 node.label → All IsUtf8 (labels_of after)
grown_texts before after node grown texts text =
    let P : List (List ℕ) → Type 0 = All IsUtf8 in
    subst P (sym (ap labels_of grown ∙ map_push (λ (n : Node). n.label) before node)) (All-push IsUtf8 (labels_of before) node.label texts text)

-- the names that are yielded are texts
pub read_node-requires-clause-text : goal.read_node-requires-clause-text
read_node-requires-clause-text c =
    let events = map view c.args.events.now in
    let n = length c.loop-name.yielded in
    let gives = c.into_iter-name-iterator.ensures.into_iter_gives in
    let turn = YieldsList-turn (YieldsList-from_vec c.args.names.items gives.0 (gives.1 ∙ c.args.names.ok.0)) c.loop-name.yielded _ c.loop-name.yielded_by c.next.result c.next.new.self c.in-Some.name c.in-Some.is c.next.ensures.steps in
    subst IsUtf8 (sym turn.1) (c.requires.texts n c.in-Some.name turn.0)

pub read_node-requires-clause-name : goal.read_node-requires-clause-name
read_node-requires-clause-name c =
    let events = map view c.args.events.now in
    let i = c.len-i.result in
    let n = length c.loop-name.yielded in
    let gives = c.into_iter-name-iterator.ensures.into_iter_gives in
    let turn = YieldsList-turn (YieldsList-from_vec c.args.names.items gives.0 (gives.1 ∙ c.args.names.ok.0)) c.loop-name.yielded _ c.loop-name.yielded_by c.next.result c.next.new.self c.in-Some.name c.in-Some.is c.next.ensures.steps in
    let many : length c.args.names.items ≡ length events = ap (λ (ns : List (List ℕ)). length ns) c.requires.names ∙ length-map events name_in in
    let place : i ≡ n = omega arith in
    let within : i < length c.args.events.now = omega (arith, turn.0, length-map c.args.events.now view) in
    turn.1 ∙ ap (λ (ns : List (List ℕ)). get_or ns n c.in-Some.name) c.requires.names
    ∙ get_or-map name_in events n null c.in-Some.name (omega (arith, length-map c.args.events.now view))
    ∙ ap (λ k. name_in (event_at events k)) (sym place) ∙ ap name_in (value_at c.args.events.now i c.index-events-i.result within c.index-events-i.is)

pub returns-in_err-node-clause-fact : goal.returns-in_err-node-clause-fact
returns-in_err-node-clause-fact c =
    let events = map view c.args.events.now in
    let i = c.len-i.result in
    let n = length c.loop-name.yielded in
    let gives = c.into_iter-name-iterator.ensures.into_iter_gives in
    let turn = YieldsList-turn (YieldsList-from_vec c.args.names.items gives.0 (gives.1 ∙ c.args.names.ok.0)) c.loop-name.yielded _ c.loop-name.yielded_by c.next.result c.next.new.self c.in-Some.name c.in-Some.is c.next.ensures.steps in
    let many : length c.args.names.items ≡ length events = ap (λ (ns : List (List ℕ)). length ns) c.requires.names ∙ length-map events name_in in
    let place : i ≡ n = omega arith in
    let within : i < length c.args.events.now = omega (arith, turn.0, length-map c.args.events.now view) in
    let here = value_at c.args.events.now i c.index-events-i.result within c.index-events-i.is in
    let same : has_earlier_parent (names_in events) n (event_at events n) ≡ has_earlier_parent c.args.index.now i (view c.index-events-i.result) =
    ap (λ k. has_earlier_parent (names_in events) k (event_at events k)) (sym place) ∙ ap (λ ns. has_earlier_parent ns i (event_at events i)) (sym c.requires.index) ∙ ap (has_earlier_parent c.args.index.now i) here in
    let stopped : c.in_err-node.field-0.0 ≢ NoMemory → parents_fact events ≡ Some c.in_err-node.field-0.0 = λ memory.
    below_stop (length events) (λ k. has_earlier_parent (names_in events) k (event_at events k)) Parent n c.in_err-node.field-0.0 (omega (arith, length-map c.args.events.now view)) c.loop-name.invariant.earlier
    (ap (λ b. unless b (Parent n)) same ∙ ap (λ k. unless (has_earlier_parent c.args.index.now i (view c.index-events-i.result)) (Parent k)) (sym place) ∙ c.in_err-node.ensures.fact memory) in
    search rules

pub loop-name-preserved : goal.loop-name-preserved
loop-name-preserved c =
    let events = map view c.args.events.now in
    let i = c.len-i.result in
    let n = length c.loop-name.yielded in
    let gives = c.into_iter-name-iterator.ensures.into_iter_gives in
    let turn = YieldsList-turn (YieldsList-from_vec c.args.names.items gives.0 (gives.1 ∙ c.args.names.ok.0)) c.loop-name.yielded _ c.loop-name.yielded_by c.next.result c.next.new.self c.in-Some.name c.in-Some.is c.next.ensures.steps in
    let many : length c.args.names.items ≡ length events = ap (λ (ns : List (List ℕ)). length ns) c.requires.names ∙ length-map events name_in in
    let place : i ≡ n = omega arith in
    let within : i < length c.args.events.now = omega (arith, turn.0, length-map c.args.events.now view) in
    let here = value_at c.args.events.now i c.index-events-i.result within c.index-events-i.is in
    let longer = length_push c.loop-name.yielded c.in-Some.name in
    let at_n : event_at events n ≡ view c.index-events-i.result = ap (event_at events) (sym place) ∙ here in
    let same : has_earlier_parent (names_in events) n (event_at events n) ≡ has_earlier_parent c.args.index.now i (view c.index-events-i.result) =
    ap (λ k. has_earlier_parent (names_in events) k (event_at events k)) (sym place) ∙ ap (λ ns. has_earlier_parent ns i (event_at events i)) (sym c.requires.index) ∙ ap (has_earlier_parent c.args.index.now i) here in
    let earlier = below_more (λ k. has_earlier_parent (names_in events) k (event_at events k) ≡ true) n c.loop-name.invariant.earlier
    (same ∙ unless_holds (has_earlier_parent c.args.index.now i (view c.index-events-i.result)) (Parent i) c.in_ok-node.ensures.fact) in
    record {
      texts = grown_texts c.loop-name.nodes.items _ c.in_ok-node.node c.in_ok-push.ensures.items c.loop-name.invariant.texts c.in_ok-node.ensures.text;
      count = ap length c.in_ok-push.ensures.items ∙ length_push c.loop-name.nodes.items c.in_ok-node.node ∙ ap (λ k. k + 1) c.loop-name.invariant.count ∙ sym longer;
      nodes =
          map_more (node_in (names_in events)) events n null c.loop-name.nodes.items _ c.in_ok-node.node (omega (arith, length-map c.args.events.now view)) c.loop-name.invariant.nodes c.in_ok-push.ensures.items
          (c.in_ok-node.ensures.node ∙ (ap (λ ns. node_in ns (view c.index-events-i.result)) c.requires.index ∙ sym (ap (node_in (names_in events)) at_n)))
          ∙ ap (λ k. map (node_in (names_in events)) (take k events)) (sym longer);
      earlier = λ k l. earlier k (omega arith);
    }

pub returns-clause-fact : goal.returns-clause-fact
returns-clause-fact c =
    let events = map view c.args.events.now in
    let gives = c.into_iter-name-iterator.ensures.into_iter_gives in
    let all = YieldsList-end (YieldsList-from_vec c.args.names.items gives.0 (gives.1 ∙ c.args.names.ok.0)) c.loop-name.yielded _ c.loop-name.yielded_by c.next.result c.next.new.self c.in-None.is c.next.ensures.steps in
    let many : length c.args.names.items ≡ length events = ap length c.requires.names ∙ length-map events name_in in
    let yielded : length c.loop-name.yielded ≡ length c.args.names.items = all.1 in
    below_none (length events) (λ k. has_earlier_parent (names_in events) k (event_at events k)) Parent (λ k l. c.loop-name.invariant.earlier k (omega arith))

pub returns-clause-nodes : goal.returns-clause-nodes
returns-clause-nodes c =
    let events = map view c.args.events.now in
    let gives = c.into_iter-name-iterator.ensures.into_iter_gives in
    let all = YieldsList-end (YieldsList-from_vec c.args.names.items gives.0 (gives.1 ∙ c.args.names.ok.0)) c.loop-name.yielded _ c.loop-name.yielded_by c.next.result c.next.new.self c.in-None.is c.next.ensures.steps in
    let many : length c.args.names.items ≡ length events = ap length c.requires.names ∙ length-map events name_in in
    let yielded : length c.loop-name.yielded ≡ length c.args.names.items = all.1 in
    map_whole (node_in (names_in events)) events (length c.loop-name.yielded) c.loop-name.nodes.items (omega arith) c.loop-name.invariant.nodes
