use Rattle.std.proofs.Common.{◌<◌, Bor, List, ℕ, ◌∷◌, [], ◌++◌, length, map, take, sym, ap, ◌∙◌, arith}
use Rattle.std.proofs.lemmas.List.{length-map, map_push, take_more}
use Rattle.dcr_nest.specs.Nest.{names_of}
use Rattle.dcr_nest.specs.declared.node.Node.{Node}
use Rattle.dcr_nest.proofs.MarkLemmas.{read_map}
use Rattle.dcr_cover_json.proofs.index.name_texts.Goals as goal

pub loop-node-preserved : goal.loop-node-preserved
loop-node-preserved c =
    let nodes = c.args.nodes.now in
    let i = c.loop-node.node-index in
    let within : i < length (names_of nodes) = omega (arith, c.loop-node-test.true, length-map nodes (λ (node : Node). node.name)) in
    ap (map (λ (text : Bor (List ℕ)). text.now)) c.in_ok-push.ensures.items ∙ (map_push (λ (text : Bor (List ℕ)). text.now) c.loop-node.texts.items c.as_bytes.result
    ∙ (ap (λ ns. ns ++ c.as_bytes.result.now ∷ []) c.loop-node.invariant
    ∙ (ap (λ n. take i (names_of nodes) ++ n ∷ []) (c.as_bytes.ensures.value ∙ (c.text.ensures.text ∙ sym (read_map (λ (node : Node). node.name) nodes i c.node-item.result [] c.loop-node-test.true c.node-item.is)))
    ∙ sym (take_more (names_of nodes) i [] within))))
