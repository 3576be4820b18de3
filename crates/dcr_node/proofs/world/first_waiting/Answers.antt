use Rattle.std.proofs.Common.{◌≡◌, ◌<◌, ◌≤◌, Some, length, refl, sym, ap, subst, ◌∙◌, arith}
use Rattle.std.specs.Prelude.{slice_get}
use Rattle.std.specs.Option.{option_map}
use Rattle.std.proofs.lemmas.List.{length-map}
use Rattle.std.proofs.lemmas.Option.{slice_get_read, slice_get-map}
use Rattle.dcr_graph.specs.Rows.{row}
use Rattle.dcr_site.specs.Seen.{StandsAt}
use Rattle.dcr_site.proofs.TogetherLemmas.{waits_none, waits_more, waits_all}
use Rattle.dcr_node.specs.SiteState.{SiteState}
use Rattle.dcr_node.proofs.world.first_waiting.Goals as goal

pub loop-node-init : goal.loop-node-init
loop-node-init c = λ G C M stand. waits_none G.atoms C M

pub loop-node-preserved : goal.loop-node-preserved
loop-node-preserved c = λ G C M stand.
    let nodes = c.args.nodes.now in
    let i = c.loop-node.node-index in
    let within : i < length nodes = omega arith in
    let here : slice_get nodes i ≡ Some c.node-item.result = slice_get_read nodes (length nodes) i c.node-item.result refl within c.node-item.is in
    let at : StandsAt G (row C i) M c.node-item.result.site =
    stand.each i c.node-item.result.site (slice_get-map (λ (node : SiteState). node.site) nodes i ∙ ap (option_map (λ (node : SiteState). node.site)) here) in
    let many : length nodes ≤ length C = (let a = stand.as_many in let b = length-map nodes (λ (node : SiteState). node.site) in omega arith) in
    c.lesser-first.ensures
    ∙ waits_more G C M i c.loop-node.first c.first_waiting.result (omega arith) (c.loop-node.invariant G C M stand)
    (c.first_waiting.ensures G (row C i) M (subst (StandsAt G (row C i) M) (sym c.site.ensures) at))

pub returns : goal.returns
returns c = λ G C M stand.
    let many : length C ≤ length c.args.nodes.now = (let a = stand.as_many in let b = length-map c.args.nodes.now (λ (node : SiteState). node.site) in omega arith) in
    waits_all G C M c.loop-node.node-index c.loop-node.first (omega arith) (c.loop-node.invariant G C M stand)
