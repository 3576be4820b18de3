use Rattle.std.proofs.Common.{IsUtf8, sym, subst}
use Rattle.std.proofs.lemmas.List.{take_all}
use Rattle.std.proofs.lemmas.List.Elements.{All-more, All-same}
use Rattle.dcr_graph_json.proofs.SeenLemmas.{IsSeen, names_seen, labels_seen, texts_seen}
use Rattle.dcr_graph_json.proofs.accepted.see_texts.Goals as goal

pub loop-node-preserved : goal.loop-node-preserved
loop-node-preserved c =
    let here : IsSeen c.node-item.result = record { name = c.text-name.ensures.name; label = c.text-label.ensures.label; text = subst IsUtf8 c.text-label.ensures.text c.text-label.utf8 } in
    All-more IsSeen c.args.nodes.now c.loop-node.node-index c.node-item.result c.loop-node-test.true c.loop-node.invariant (subst IsSeen c.node-item.is here)

pub returns-clause-names : goal.returns-clause-names
returns-clause-names c =
    names_seen c.args.nodes.now (All-same IsSeen _ _ (sym (take_all c.loop-node.node-index c.args.nodes.now c.loop-node-test.false)) c.loop-node.invariant)

pub returns-clause-labels : goal.returns-clause-labels
returns-clause-labels c =
    labels_seen c.args.nodes.now (All-same IsSeen _ _ (sym (take_all c.loop-node.node-index c.args.nodes.now c.loop-node-test.false)) c.loop-node.invariant)

pub returns-clause-texts : goal.returns-clause-texts
returns-clause-texts c =
    texts_seen c.args.nodes.now (All-same IsSeen _ _ (sym (take_all c.loop-node.node-index c.args.nodes.now c.loop-node-test.false)) c.loop-node.invariant)
