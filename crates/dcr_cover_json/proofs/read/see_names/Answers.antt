use Rattle.std.proofs.Common.{◌≡◌, true, sym, subst}
use Rattle.std.proofs.lemmas.List.{take_all}
use Rattle.std.proofs.lemmas.List.Elements.{All-map, All-more, All-same}
use Rattle.dcr_graph.specs.Names.{is_name}
use Rattle.dcr_nest.specs.declared.node.Node.{Node}
use Rattle.dcr_cover_json.proofs.read.see_names.Goals as goal

abbrev Is : Node → Type 0
Is node = is_name node.name ≡ true

pub loop-node-preserved : goal.loop-node-preserved
loop-node-preserved c =
    All-more Is c.args.nodes.now c.loop-node.node-index c.node-item.result c.loop-node-test.true c.loop-node.invariant (subst Is c.node-item.is c.text-name.ensures.name)

pub returns : goal.returns
returns c =
    All-map (λ name. is_name name ≡ true) (λ (node : Node). node.name) c.args.nodes.now (All-same Is _ _ (sym (take_all c.loop-node.node-index c.args.nodes.now c.loop-node-test.false)) c.loop-node.invariant)
