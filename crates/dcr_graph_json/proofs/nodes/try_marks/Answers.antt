use Rattle.std.proofs.Common.{◌≡◌, ℕ, ◌<◌, ◌≤◌, Bool, true, false, ◌&&◌, not, List, None, length, get_or, map, sym, ap, subst, ◌∙◌, arith}
use Rattle.std.proofs.lemmas.List.{length-map}
use Rattle.serde_json.specs.View.{view}
use Rattle.serde_json.specs.declared.value.Value.{Value}
use borrow.Author.Count.{below_more}
use Rattle.dcr_nest.specs.Nest.{parents_of}
use Rattle.dcr_nest.specs.Tree.{AreEarlier, is_parent}
use Rattle.dcr_nest.specs.declared.node.Node.{Node}
use Rattle.dcr_format.specs.declared.stop.CaseStop.TheVariants.{MarkOnNest}
use Rattle.dcr_format.proofs.FactLemmas.{below_none, below_first}
use Rattle.dcr_graph_json.specs.Build.{has_its_marks, names_fact, node_in, nodes_in}
use Rattle.dcr_graph_json.specs.Limits.{is_parent_name}
use Rattle.dcr_graph_json.specs.Written.{event_at, name_in, names_in, writes_mark}
use Rattle.dcr_graph_json.proofs.LoopLemmas.{value_at}
use Rattle.dcr_graph_json.proofs.NodeLemmas.{earlier_parents, parent_by_name}
use Rattle.dcr_graph_json.proofs.nodes.try_marks.Goals as goal

-- what was tried of event i
tried : (vs : List Value) (nodes : List Node) (marks : List Bool) (i : ℕ) (v : Value) (b : Bool) → names_fact (map view vs) ≡ None → nodes ≡ nodes_in (map view vs)
    → ((x : ℕ) → x < 2048 → get_or marks x false ≡ is_parent (parents_of nodes) x) → length vs ≤ 2048 → i < length vs → v ≡ get_or vs i v
    → b ≡ (get_or marks i false && writes_mark (view v)) → has_its_marks (map view vs) (event_at (map view vs) i) ≡ not b
tried vs nodes marks i v b named these told most l is e =
    let events = map view vs in
    let parent : get_or marks i false ≡ is_parent_name events (name_in (event_at events i)) =
    told i (omega arith) ∙ ap (λ (ns : List Node). is_parent (parents_of ns) i) these ∙ parent_by_name events named i (omega (arith, length-map vs view)) in
    ap not (ap (λ c. c && writes_mark (event_at events i)) (sym parent) ∙ ap (λ d. get_or marks i false && writes_mark d) (value_at vs i v l is) ∙ sym e)

pub parent_marks-is_parent-requires-clause-most : goal.parent_marks-is_parent-requires-clause-most
parent_marks-is_parent-requires-clause-most c =
    let events = map view c.args.events.now in
    omega (arith, ap (λ (nodes : List Node). length nodes) c.requires.nodes, length-map events (node_in (names_in events)), length-map c.args.events.now view)

pub parent_marks-is_parent-requires-clause-earlier : goal.parent_marks-is_parent-requires-clause-earlier
parent_marks-is_parent-requires-clause-earlier c =
    let P : List Node → Type 0 = λ nodes. AreEarlier (parents_of nodes) in
    subst P (sym c.requires.nodes) (earlier_parents (map view c.args.events.now) c.requires.parents)

pub returns-then-is_marked_nest : goal.returns-then-is_marked_nest
returns-then-is_marked_nest c =
    let events = map view c.args.events.now in
    let i = c.loop-i.i in
    sym (below_first (length events) (λ k. has_its_marks events (event_at events k)) MarkOnNest i (omega (arith, c.loop-i-test.true, length-map c.args.events.now view)) c.loop-i.invariant
    (tried c.args.events.now c.args.nodes.now c.parent_marks-is_parent.result c.loop-i.i c.index-events-i.result c.is_marked_nest.result c.requires.names c.requires.nodes c.parent_marks-is_parent.ensures.marks c.requires.most c.loop-i-test.true c.index-events-i.is c.is_marked_nest.ensures ∙ ap not c.if-is_marked_nest.true))

pub loop-i-preserved : goal.loop-i-preserved
loop-i-preserved c =
    let events = map view c.args.events.now in
    below_more (λ k. has_its_marks events (event_at events k) ≡ true) c.loop-i.i c.loop-i.invariant (tried c.args.events.now c.args.nodes.now c.parent_marks-is_parent.result c.loop-i.i c.index-events-i.result c.is_marked_nest.result c.requires.names c.requires.nodes c.parent_marks-is_parent.ensures.marks c.requires.most c.loop-i-test.true c.index-events-i.is c.is_marked_nest.ensures ∙ ap not c.if-is_marked_nest.false)

pub returns : goal.returns
returns c =
    let events = map view c.args.events.now in
    sym (below_none (length events) (λ k. has_its_marks events (event_at events k)) MarkOnNest (λ k l. c.loop-i.invariant k (omega (arith, c.loop-i-test.false, length-map c.args.events.now view))))
