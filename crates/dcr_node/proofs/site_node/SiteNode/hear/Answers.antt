use Rattle.std.proofs.Common.{◌≡◌, ◌+◌, true, cond, sym, ap, subst, ◌∙◌}
use Rattle.dcr_graph.specs.Projection.{local_step}
use Rattle.dcr_site.specs.Seen.{Seen, StandsAt}
use Rattle.dcr_node.specs.SiteState.{SiteState, heard_one, is_ready}
use Rattle.dcr_node.proofs.SiteNodeLemmas.{steps_by_marks}
use Rattle.dcr_node.proofs.site_node.SiteNode.hear.Goals as goal

pub returns-then-is_for-clause-stepped : goal.returns-then-is_for-clause-stepped
returns-then-is_for-clause-stepped c = λ G S M at.
    let node = c.args.self.now in
    let here : StandsAt G S M c.self.inside.site = subst (λ (n : SiteState). StandsAt G S M n.site) (sym c.self.view_is) at in
    let ready : is_ready node c.args.site c.args.index ≡ true = sym c.is_for.ensures ∙ c.if-is_for.true in
    let stepped = steps_by_marks G S M c.self.inside.site c.apply.new.self c.args.event here c.apply.ensures.projection (c.apply.ensures.stepped G S M here) in
    ap (λ (site : Seen). let n : SiteState = record { id = c.self.inside.id; count = c.self.inside.count + 1; site = site } in n) stepped
    ∙ ap (λ (n : SiteState). heard_one n (local_step G S n.site.mark c.args.event)) c.self.view_is
    ∙ ap (λ b. cond b (heard_one node (local_step G S node.site.mark c.args.event)) node) (sym ready)
