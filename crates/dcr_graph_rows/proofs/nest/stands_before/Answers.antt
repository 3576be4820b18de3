use Rattle.std.proofs.Common.{[], get_or, below_more, ap, sym, ◌∙◌, arith}
use Rattle.std.specs.Str.{bytes_eq}
use Rattle.std.proofs.lemmas.List.{get_or-map}
use Rattle.dcr_nest.specs.Nest.{names_of}
use Rattle.dcr_nest.specs.declared.node.Node.{Node}
use Rattle.dcr_graph_rows.proofs.nest.stands_before.Goals as goal

pub loop-k-preserved : goal.loop-k-preserved
loop-k-preserved c =
    let nodes = c.args.nodes.now in
    let first = get_or-map (λ (node : Node). node.name) nodes c.loop-k.k c.index-nodes-k.result [] (let r = c.requires in let t = c.loop-k-test.true in omega arith) ∙ sym c.text.ensures.text in
    let second = get_or-map (λ (node : Node). node.name) nodes c.args.at c.index-nodes-at.result [] c.requires ∙ sym c.text-in-loop-k.ensures.text in
    below_more _ _ c.loop-k.invariant (
    ap (λ t. bytes_eq t (get_or (names_of nodes) c.args.at [])) first ∙ ap (bytes_eq c.text.result.now) second
    ∙ sym c.eq.ensures ∙ c.if-eq.false)
